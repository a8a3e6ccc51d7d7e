use Rattle.std.proofs.Common.{refl}
use Rattle.weak_direct.proofs.FrameLemmas.{looks_on, looks_of}
use Rattle.weak_direct.proofs.direct.clear_read.Goals as goal

pub returns : goal.returns
returns g c = record { looks = looks_on (looks_of c.step-eight.ensures.goes (c.step-eight.ensures.quiet (λ s. refl))) (looks_of c.step-nine.ensures.goes (c.step-nine.ensures.quiet (λ s. refl))) }
