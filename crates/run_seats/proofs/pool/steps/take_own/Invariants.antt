use Rattle.std.proofs.Common.{◌≡◌}
use Rattle.crossbeam_queue.specs.Passes.{view, IsPassOf}
use Rattle.run_seats.specs.Pool.Pooling.{holding}
use Rattle.run_seats.proofs.pool.steps.take_own.Given as goal

abbrev pub invariant-tries : goal.invariant-tries
invariant-tries g l = IsPassOf l.queue l.pass × (view l.pass ≡ holding (view l.fn.pass) (view l.pass).turns)
