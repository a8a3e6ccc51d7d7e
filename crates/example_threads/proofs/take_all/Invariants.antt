use Rattle.run_seats.specs.Seating.{IsSeatOf}
use Rattle.example_threads.proofs.take_all.Given as goal

abbrev pub invariant-waiting : goal.invariant-waiting
invariant-waiting l = IsSeatOf l.seats l.seat
