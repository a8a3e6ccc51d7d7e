use Rattle.std.proofs.Common.{◌≡◌, ◌≤◌, drop, length}
use Rattle.model_core.specs.Entries.{wiped_keys}
use Rattle.judge_plain.proofs.wiping.empty_keys.Given as goal

-- the keys at the greatest places are empty
abbrev pub invariant-loop-left : goal.invariant-loop-left
invariant-loop-left l = (l.keys-inside.items.items ≡ wiped_keys (drop l.left l.places) l.fn.keys) × (l.left ≤ length l.places)

abbrev pub decreases-loop-left : goal.decreases-loop-left
decreases-loop-left l = l.left
