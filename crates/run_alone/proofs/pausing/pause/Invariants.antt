use Rattle.std.proofs.Common.{◌≡◌, []}
use Rattle.std.specs.Prelude.{vec_capacity}
use Rattle.run_alone.specs.Lone.{IsPausing, decides}
use Rattle.run_alone.specs.Paces.{steps_left}
use Rattle.run_alone.proofs.pausing.pause.Given as goal

abbrev pub invariant-passes : goal.invariant-passes
invariant-passes l = IsPausing l.heap l.complete l.fn.run l.run × (l.next ≡ l.fn.run.next) × (l.decider ≡ decides l.complete) × (l.room.items ≡ []) × (vec_capacity l.room ≡ vec_capacity l.fn.room)

abbrev pub decreases-passes : goal.decreases-passes
decreases-passes l = steps_left l.heap.config l.run
