use Rattle.std.proofs.Common.{refl}
use Rattle.weak_direct.proofs.FrameLemmas.{looks_on, looks_of}
use Rattle.weak_direct.proofs.direct.clear.Goals as goal

pub returns : goal.returns
returns g c =
    let nine = looks_on (looks_of c.step-eight.ensures.goes (c.step-eight.ensures.quiet (λ s. refl))) (looks_of c.step-nine.ensures.goes (c.step-nine.ensures.quiet (λ s. refl))) in
    record { looks = looks_on (looks_on nine (looks_of c.step-ten.ensures.goes (c.step-ten.ensures.quiet (λ s. refl)))) (looks_of c.step-eleven.ensures.goes (c.step-eleven.ensures.quiet (λ s. refl))) }
