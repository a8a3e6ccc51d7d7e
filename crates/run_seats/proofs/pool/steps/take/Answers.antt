use Rattle.run_seats.proofs.OfPool.Moves.{takes, took}
use Rattle.run_seats.proofs.pool.steps.take.Goals as goal

pub try_pop_as-requires-clause-rule : goal.try_pop_as-requires-clause-rule
try_pop_as-requires-clause-rule g c = takes g.T.Restful.shares g.T.Restful.follows _ _

pub returns-clause-took : goal.returns-clause-took
returns-clause-took g c = took g.T.Restful.shares g.T.Restful.follows _ _ c.args.shared.now c.try_pop_as.result c.requires.keeps c.try_pop_as.ensures.rule
