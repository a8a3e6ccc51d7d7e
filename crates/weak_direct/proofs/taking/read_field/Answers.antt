use Rattle.std.proofs.Common.{refl}
use Rattle.weak_direct.proofs.FrameLemmas.{looks_of}
use Rattle.weak_direct.proofs.taking.read_field.Goals as goal

pub returns-clause-looks : goal.returns-clause-looks
returns-clause-looks g c = looks_of c.step.ensures.goes (c.step.ensures.quiet (λ s. refl))
