use Rattle.run_seats.specs.Seating.{IsSeatOf}
use Rattle.test_heap.proofs.seats.eight.play.Given as goal

abbrev pub invariant-loop-command : goal.invariant-loop-command
invariant-loop-command g l = record { here : IsSeatOf l.seats l.seat }
