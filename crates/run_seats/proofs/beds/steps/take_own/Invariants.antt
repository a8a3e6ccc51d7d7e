use Rattle.std.proofs.Common.{◌≡◌, true, false}
use Rattle.std.specs.Prelude.{None}
use Rattle.crossbeam_queue.specs.Passes.{view, IsPassOf}
use Rattle.run_seats.specs.Beds.Bedding.{holding, is_lost}
use Rattle.run_seats.proofs.beds.steps.take_own.Given as goal

abbrev pub invariant-looks : goal.invariant-looks
invariant-looks g l = IsPassOf l.queue l.pass × (view l.pass ≡ holding (view l.fn.pass) (view l.pass).turns) × (is_lost true l.number (view l.pass).turns None ≡ false)
