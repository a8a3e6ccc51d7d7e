use Rattle.std.proofs.Common.{inr, refl}
use Rattle.step_sweep.proofs.returning.SinkingWriting.write.Goals as goal

pub returns-in-None : goal.returns-in-None
returns-in-None c = inr ((λ class a. c.in-None.ensures class a.0 a.1), refl)
