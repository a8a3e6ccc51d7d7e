use Rattle.std.proofs.Common.{refl}
use Rattle.run_threads.proofs.rotation.rotate.Goals as goal

pub turns-init : goal.turns-init
turns-init g c = ((refl, λ k d few. g.met.T.Trace.follows_itself _), c.requires, refl)
