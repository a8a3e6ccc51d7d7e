use Rattle.std.proofs.Common.{◌∙◌, ap, refl, sym}
use Rattle.run_seats.proofs.OfShared.Taken.{rests_some}
use Rattle.run_seats.proofs.shared.bed.RunBed.leave.Goals as goal

pub returns-then-not-is_free-clause-back : goal.returns-then-not-is_free-clause-back
returns-then-not-is_free-clause-back c =
    let y = rests_some c.self.inside.bed.rests c.is_free.result c.is_free.ensures.1 c.if-not-is_free.true in
    (refl, y.0, sym (ap (λ b. b.rests) c.self.view_is) ∙ y.1)
