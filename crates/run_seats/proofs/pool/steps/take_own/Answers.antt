use Rattle.std.proofs.Common.{ap, refl, subst, sym}
use Rattle.crossbeam_queue.specs.Passes.{view}
use Rattle.run_seats.specs.Pool.Keeping.{HasTaken, KeepsOf}
use Rattle.run_seats.specs.declared.pool.rule.Rested.{Rested}
use Rattle.run_seats.proofs.pool.steps.take_own.Goals as goal

pub take-requires-clause-keeps : goal.take-requires-clause-keeps
take-requires-clause-keeps g c = subst (λ o. KeepsOf g.T.Restful.shares c.args.shared.now o) (sym (ap (λ v. v.rests) c.tries.invariant.1)) c.requires.keeps

pub give-requires-clause-taken : goal.give-requires-clause-taken
give-requires-clause-taken g c =
    let took = c.in-Some-take.ensures.took in
    subst (λ (r : Rested _). HasTaken g.T.Restful.shares g.T.Restful.follows c.args.shared.now (view c.take.new.pass) r) (sym c.in-Err.ensures.other)
    (record { old = c.in-Some-take.found; turns = ap (λ v. v.turns) took.0; number = refl; stamp = refl; follows_it = g.met.T.Restful.follows_itself _; was = took.2; is = took.2 })
