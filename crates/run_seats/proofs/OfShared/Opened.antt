-- The runs of a heap that has just started are runs of it.
use Rattle.std.proofs.Common.{◌≡◌, ℕ, zero, suc, ◌+◌, refl, sym, map}
use Rattle.std.specs.List.{AllByRecursion}
use Rattle.heap_rule.specs.declared.config.Config.{Config}
use Rattle.heap_rule.specs.Opening.{opening_tokens}
use Rattle.heap_rule.specs.Token.{IsIn, SharedHeap}
use Rattle.run_turns.specs.Runs.{RunView}
use Rattle.run_turns.specs.Singly.Opening.{opened}

pub all_here : (h : SharedHeap) (k : Config) (from n : ℕ) → h.config ≡ k → AllByRecursion (λ (r : RunView). IsIn r.token h) (map opened (opening_tokens h.table k from n))
all_here h k from zero same = tt
all_here h k from (suc n) same = ((refl, sym same), all_here h k (from + 1) n same)
