use Rattle.std.proofs.Common.{◌∙◌, ap, subst, sym}
use Rattle.run_seats.specs.Shared.Sharing.{MayClose}
use Rattle.run_seats.proofs.OfShared.Taken.{rests_some}
use Rattle.run_seats.proofs.shared.bed.RunBed.rest.Goals as goal

pub returns-then-not-is_free-clause-why : goal.returns-then-not-is_free-clause-why
returns-then-not-is_free-clause-why c =
    let y = rests_some c.self.inside.bed.rests c.is_free.result c.is_free.ensures.1 c.if-not-is_free.true in
    (subst MayClose c.deref.ensures c.in_default.ensures.may, y.0, sym (ap (λ b. b.rests) c.self.view_is) ∙ y.1)
