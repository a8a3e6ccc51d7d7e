use Rattle.run_seats.proofs.OfBeds.Moves.{forks}
use Rattle.run_seats.proofs.beds.steps.another.Goals as goal

pub another-requires-clause-rule : goal.another-requires-clause-rule
another-requires-clause-rule g c = forks g.T.Restful.follows _ _ c.requires.makes
