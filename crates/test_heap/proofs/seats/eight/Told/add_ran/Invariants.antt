use Rattle.run_seats.specs.Seating.{IsSeatOf}
use Rattle.test_heap.proofs.seats.eight.Told.add_ran.Given as goal

abbrev pub invariant-waiting : goal.invariant-waiting
invariant-waiting l = IsSeatOf l.seats l.seat
