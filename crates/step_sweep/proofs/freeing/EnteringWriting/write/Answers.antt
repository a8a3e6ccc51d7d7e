use Rattle.std.proofs.Common.{ℕ, ap, inr}
use Rattle.step_sweep.specs.Freeing.{sweeping_from}
use Rattle.step_sweep.proofs.freeing.EnteringWriting.write.Goals as goal

pub returns-in-None : goal.returns-in-None
returns-in-None c = inr ((λ class a. c.in-None.ensures class a.0 a.1), ap (λ (pool : ℕ). sweeping_from c.args.own.now (record { pool = pool; slot = 0 })) c.pool_after.ensures)
