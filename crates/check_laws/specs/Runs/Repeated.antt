-- Two replays of the same bytes wrote the same.
use Rattle.std.specs.Prelude.{◌≡◌, ℕ, ◌<◌, ◌^◌, List, ◌++◌, Option, Some}
use Rattle.model_core.specs.declared.state.Sizes.{Sizes}
use Rattle.heap_rule.specs.Ending.{EndedHeap}
use Rattle.camlheap_run.specs.Replaying.{ReplaysToEnd}

-- two replays of the same told bytes that ended well, on heaps with as many domains, wrote the same bytes, whatever the pools and the minor areas
abbrev pub ReplaysAreRepeated : Type 0
ReplaysAreRepeated = (y z : Sizes) (first second : Option EndedHeap) (told : List ℕ) (left rest : Option (List ℕ)) (before behind one other : List ℕ) → y.domains ≡ z.domains → y.domains < 2 ^ 32
    → ReplaysToEnd y first (Some told) left (Some before) (Some (before ++ one)) → ReplaysToEnd z second (Some told) rest (Some behind) (Some (behind ++ other)) → one ≡ other
