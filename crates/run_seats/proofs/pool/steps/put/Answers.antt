use Rattle.std.proofs.Common.{◌∙◌, ◌+◌, ap, subst, sym}
use Rattle.run_seats.specs.Pool.Keeping.{KeepsOf}
use Rattle.run_seats.proofs.OfPool.Moves.{puts}
use Rattle.run_seats.proofs.pool.steps.put.Goals as goal

pub try_push_as-requires-clause-rule : goal.try_push_as-requires-clause-rule
try_push_as-requires-clause-rule g c =
    let same = c.tries.invariant.1 in
    let own = c.tries.invariant.2 in
    puts g.T.Restful.shares g.T.Restful.follows _ _ _ _ c.args.shared.now g.met.T.Restful.follows_itself g.met.T.Restful.share_alike
    (ap (λ r. r.number) own ∙ (c.requires.number ∙ ap (λ v. v.number) (sym same)))
    (ap (λ r. r.stamp) own ∙ (c.requires.stamp ∙ ap (λ v. v.stamp + 1) (sym same)))
    (subst (λ r. g.T.Restful.shares c.args.shared.now r.item) (sym own) c.requires.here)
    (subst (λ v. KeepsOf g.T.Restful.shares c.args.shared.now v.rests) (sym same) c.requires.keeps)
