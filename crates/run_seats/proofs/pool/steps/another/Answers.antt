use Rattle.run_seats.proofs.OfPool.Moves.{forks}
use Rattle.run_seats.proofs.pool.steps.another.Goals as goal

pub another-requires-clause-rule : goal.another-requires-clause-rule
another-requires-clause-rule g c = forks g.T.Restful.shares g.T.Restful.follows _ _ c.requires.makes c.requires.keeps.0 c.requires.keeps.1
