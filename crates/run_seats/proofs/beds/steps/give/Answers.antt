use Rattle.std.proofs.Common.{subst, sym}
use Rattle.run_seats.specs.Beds.Bedding.{HasTaken}
use Rattle.run_seats.specs.declared.beds.rule.Knows.{Knows}
use Rattle.run_seats.specs.declared.beds.rule.Rested.{Rested}
use Rattle.run_seats.proofs.OfBeds.Moves.{gives}
use Rattle.run_seats.proofs.beds.steps.give.Goals as goal

pub try_push_as-requires-clause-rule : goal.try_push_as-requires-clause-rule
try_push_as-requires-clause-rule g c =
    let same = c.tries.invariant.1 in
    let taken = c.tries.invariant.2 in
    gives g.T.Restful.follows _ _ _ _ g.met.T.Restful.follows_on
    (subst (λ (p : Knows _ × Rested _). HasTaken g.T.Restful.follows p.0 p.1) (λ i. (sym same i, sym taken i)) c.requires.taken)
