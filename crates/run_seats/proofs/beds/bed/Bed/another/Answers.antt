use Rattle.std.proofs.Common.{◌∙◌, ap}
use Rattle.run_seats.proofs.OfBeds.Kept.{bed_more}
use Rattle.run_seats.proofs.beds.bed.Bed.another.Goals as goal

pub invariant_of-self : goal.invariant_of-self
invariant_of-self g c = ((c.another-pass.ensures.queue.0.0 ∙ ap (λ q. q.table.shared.table_id) c.deref.ensures, c.another-pass.ensures.queue.0.1), bed_more g.T.Restful.follows _ _ _ _ _ _ _ _ c.self.invariant.1 c.another-pass.ensures.made.0)
