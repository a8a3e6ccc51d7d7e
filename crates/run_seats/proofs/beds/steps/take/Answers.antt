use Rattle.run_seats.proofs.OfBeds.Moves.{takes}
use Rattle.run_seats.proofs.beds.steps.take.Goals as goal

pub try_pop_as-requires-clause-rule : goal.try_pop_as-requires-clause-rule
try_pop_as-requires-clause-rule g c = takes g.T.Restful.follows _ _
