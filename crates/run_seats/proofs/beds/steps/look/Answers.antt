use Rattle.std.proofs.Common.{◌≡◌, ap, refl, subst, sym}
use Rattle.crossbeam_queue.specs.Passes.{view}
use Rattle.run_seats.specs.Beds.Bedding.{HasTaken}
use Rattle.run_seats.specs.declared.beds.rule.Rested.{Rested}
use Rattle.run_seats.proofs.OfBeds.Kept.{taken_as}
use Rattle.run_seats.proofs.beds.steps.look.Goals as goal

pub give-requires-clause-taken : goal.give-requires-clause-taken
give-requires-clause-taken g c =
    let took = c.in-Some.ensures.took in
    subst (λ (r : Rested _). HasTaken g.T.Restful.follows (view c.take.new.pass) r) (sym c.in-Err.ensures.other)
    (record { old = c.in-Some.found; turns = ap (λ v. v.turns) took.0; number = refl; stamp = refl; follows_it = g.met.T.Restful.follows_itself _ })

pub returns-in-Err-give-clause-guest : goal.returns-in-Err-give-clause-guest
returns-in-Err-give-clause-guest g c x e =
    let took = c.in-Some.ensures.took in
    let gave = c.in-Err-give.ensures.gave in
    let same : c.in-Err-give.found ≡ x = cc in
    let has : HasTaken g.T.Restful.follows (view c.take.new.pass) c.in-Err.found = subst (λ (r : Rested _). HasTaken g.T.Restful.follows (view c.take.new.pass) r) (sym c.in-Err.ensures.other)
    (record { old = c.in-Some.found; turns = ap (λ v. v.turns) took.0; number = refl; stamp = refl; follows_it = g.met.T.Restful.follows_itself _ }) in
    subst (λ (r : Rested _). HasTaken g.T.Restful.follows (view c.give.new.pass) r) same (taken_as g.T.Restful.follows _ _ _ _ gave.1 gave.0 has)
