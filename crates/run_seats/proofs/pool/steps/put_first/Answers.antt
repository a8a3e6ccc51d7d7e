use Rattle.std.proofs.Common.{ap, ◌∙◌}
use Rattle.run_seats.proofs.OfPool.Moves.{puts_first}
use Rattle.run_seats.proofs.pool.steps.put_first.Goals as goal

pub try_push_as-requires-clause-rule : goal.try_push_as-requires-clause-rule
try_push_as-requires-clause-rule g c = puts_first g.T.Restful.shares g.T.Restful.follows _ _ _ _ g.met.T.Restful.follows_itself (c.tries.invariant.1 ∙ c.requires.alone) (ap (λ r. r.number) c.tries.invariant.2 ∙ c.requires.number.0)
