use Rattle.run_seats.specs.Beds.Bedding.{IsSameBed}
use Rattle.run_seats.proofs.beds.bed.Bed.gives_back.Given as goal

abbrev pub invariant-rounds : goal.invariant-rounds
invariant-rounds g l = IsSameBed l.fn.self l.self
