use Rattle.std.proofs.Common.{◌≡◌, ◌++◌, ◌≤◌, map, reverse, drop, length}
use Rattle.model_core.specs.Entries.{at_places, queued_final}
use Rattle.judge_plain.proofs.queueing.queue_with.Given as goal

-- the registrations at the greatest places are queued
abbrev pub invariant-loop-left : goal.invariant-loop-left
invariant-loop-left l = (l.items.items ≡ l.domain.queue ++ map queued_final (at_places (reverse (drop l.left l.places)) l.domain.finals)) × (l.left ≤ length l.places)

abbrev pub decreases-loop-left : goal.decreases-loop-left
decreases-loop-left l = l.left
