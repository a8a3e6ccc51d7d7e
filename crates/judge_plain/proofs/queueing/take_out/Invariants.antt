use Rattle.std.proofs.Common.{◌≡◌, ◌≤◌, drop, length}
use Rattle.model_core.specs.Entries.{without_places}
use Rattle.judge_plain.proofs.queueing.take_out.Given as goal

-- the registrations at the greatest places have left
abbrev pub invariant-loop-left : goal.invariant-loop-left
invariant-loop-left l = (l.finals-inside.items.items ≡ without_places (drop l.left l.places) l.fn.finals) × (l.left ≤ length l.places)

abbrev pub decreases-loop-left : goal.decreases-loop-left
decreases-loop-left l = l.left
