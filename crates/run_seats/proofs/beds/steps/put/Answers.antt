use Rattle.std.proofs.Common.{◌∙◌, ◌+◌, ap, sym}
use Rattle.run_seats.proofs.OfBeds.Moves.{puts}
use Rattle.run_seats.proofs.beds.steps.put.Goals as goal

pub try_push_as-requires-clause-rule : goal.try_push_as-requires-clause-rule
try_push_as-requires-clause-rule g c =
    let same = c.tries.invariant.1 in
    let own = c.tries.invariant.2 in
    puts g.T.Restful.follows _ _ _ _ g.met.T.Restful.follows_itself
    (ap (λ r. r.number) own ∙ (c.requires.number ∙ ap (λ v. v.number) (sym same)))
    (ap (λ r. r.stamp) own ∙ (c.requires.stamp ∙ ap (λ v. v.stamp + 1) (sym same)))
