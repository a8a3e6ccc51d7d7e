use Rattle.std.specs.Prelude.{◌≤◌}
use Rattle.run_seats.specs.Seating.{IsSeatOf}
use Rattle.test_heap.proofs.seats.threads.builds.Given as goal

abbrev pub invariant-loop-round : goal.invariant-loop-round
invariant-loop-round g l = record {
  here : IsSeatOf l.seats l.seat;
  few : l.lives ≤ l.round;
}
