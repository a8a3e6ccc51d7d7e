use Rattle.std.proofs.Common.{◌∙◌, ap, refl}
use Rattle.crossbeam_queue.specs.Passes.{view}
use Rattle.run_seats.specs.Beds.Bedding.{HasTaken}
use Rattle.run_seats.proofs.OfBeds.Kept.{bed_guest, taken_as}
use Rattle.run_seats.proofs.beds.bed.Bed.attend.Goals as goal

pub give-requires-clause-taken : goal.give-requires-clause-taken
give-requires-clause-taken g c = record { old = c.in-Some.found; turns = ap (λ v. v.turns) c.in-Some.ensures.took.0; number = refl; stamp = refl; follows_it = c.attend-went.ensures.follows }

pub invariant_of-self-in-Err-2 : goal.invariant_of-self-in-Err-2
invariant_of-self-in-Err-2 g c =
    let gave = c.in-Err.ensures.gave in
    let has : HasTaken g.T.Restful.follows (view c.take.new.pass) (record { item = c.attend-went.new.self; number = c.in-Some.found.number; stamp = c.in-Some.found.stamp })
    = record { old = c.in-Some.found; turns = ap (λ v. v.turns) c.in-Some.ensures.took.0; number = refl; stamp = refl; follows_it = c.attend-went.ensures.follows } in
    ((c.give.ensures.queue.0 ∙ ap (λ q. q.table.shared.table_id) c.deref-2.ensures, c.give.ensures.queue.1), bed_guest g.T.Restful.follows _ _ _ _ _ _ _ _ c.self.invariant.1 c.in-Some.found _ (gave.1 ∙ c.in-Some.ensures.took.0) (taken_as g.T.Restful.follows _ _ _ _ gave.1 gave.0 has))
