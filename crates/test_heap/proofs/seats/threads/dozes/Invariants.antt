use Rattle.std.specs.Prelude.{◌≤◌}
use Rattle.run_seats.specs.Seating.{IsSeatOf}
use Rattle.test_heap.proofs.seats.threads.dozes.Given as goal

abbrev pub invariant-loop : goal.invariant-loop
invariant-loop g l = record {
  here : IsSeatOf l.seats l.resting;
  few : l.done ≤ l.counter;
}
