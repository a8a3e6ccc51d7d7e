use Rattle.run_seats.specs.Seating.{IsSeatOf}
use Rattle.example_threads.proofs.works.Given as goal

abbrev pub invariant-commands : goal.invariant-commands
invariant-commands g l = IsSeatOf l.seats l.seat
