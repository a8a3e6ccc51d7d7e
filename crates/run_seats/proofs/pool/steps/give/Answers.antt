use Rattle.std.proofs.Common.{subst, sym}
use Rattle.run_seats.specs.Pool.Keeping.{HasTaken}
use Rattle.run_seats.specs.declared.pool.rule.Knows.{Knows}
use Rattle.run_seats.specs.declared.pool.rule.Rested.{Rested}
use Rattle.run_seats.proofs.OfPool.Moves.{gives}
use Rattle.run_seats.proofs.pool.steps.give.Goals as goal

pub try_push_as-requires-clause-rule : goal.try_push_as-requires-clause-rule
try_push_as-requires-clause-rule g c =
    let same = c.tries.invariant.1 in
    let taken = c.tries.invariant.2 in
    gives g.T.Restful.shares g.T.Restful.follows _ _ _ _ c.args.shared.now g.met.T.Restful.follows_on g.met.T.Restful.share_alike
    (subst (λ (p : Knows _ × Rested _). HasTaken g.T.Restful.shares g.T.Restful.follows c.args.shared.now p.0 p.1) (λ i. (sym same i, sym taken i)) c.requires.taken)
