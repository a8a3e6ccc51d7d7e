use Rattle.std.proofs.Common.{◌≡◌, ◌∙◌, ◌+◌, false, ap, refl}
use Rattle.std.specs.Prelude.{is_some}
use Rattle.run_seats.proofs.OfBeds.Kept.{bed_put, is_none}
use Rattle.run_seats.proofs.beds.bed.Bed.rest.Goals as goal

pub invariant_of-self : goal.invariant_of-self
invariant_of-self g c =
    let empty : is_some c.self.inside.guest ≡ false = (let a = c.is_some.ensures in let b = c.if-is_some.false in cc) in
    ((c.in-Ok.ensures.queue.0 ∙ ap (λ q. q.table.shared.table_id) c.deref.ensures, c.in-Ok.ensures.queue.1), bed_put g.T.Restful.follows _ _ _ _ _ _ _ _ c.self.invariant.1 (record { item = c.args.item; number = c.self.inside.number; stamp = c.self.inside.stamp + 1 }) (is_none _ empty) refl c.in-Ok.ensures.put)
