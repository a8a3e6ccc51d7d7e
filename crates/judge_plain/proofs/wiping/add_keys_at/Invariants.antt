use Rattle.std.proofs.Common.{◌≡◌, ◌++◌, filter_map, take}
use Rattle.model_core.specs.Entries.{at_places}
use Rattle.judge_plain.proofs.wiping.add_keys_at.Given as goal

-- the labels so far
abbrev pub invariant-loop-p : goal.invariant-loop-p
invariant-loop-p l = l.labels.items ≡ l.fn.labels.items ++ filter_map (λ k. k) (at_places (take l.p-index l.places) l.keys)
