use Rattle.std.proofs.Common.{◌≡◌}
use Rattle.crossbeam_queue.specs.Passes.{view, IsPassOf}
use Rattle.run_seats.proofs.pool.steps.give.Given as goal

abbrev pub invariant-tries : goal.invariant-tries
invariant-tries g l = IsPassOf l.queue l.pass × (view l.pass ≡ view l.fn.pass) × (l.resting ≡ l.fn.taken)
