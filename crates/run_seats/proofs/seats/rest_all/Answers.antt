use Rattle.std.proofs.Common.{subst}
use Rattle.std.specs.List.{AllByRecursion}
use Rattle.run_seats.specs.Shared.Idling.{IsIdleIn}
use Rattle.run_seats.proofs.Seated.{resting_idle}
use Rattle.run_seats.proofs.seats.rest_all.Goals as goal

pub invariant_of-push_reserved : goal.invariant_of-push_reserved
invariant_of-push_reserved g c = resting_idle c.args.heap.now c.in-Some.run' c.another-keeper.result c.rest.new.keeper (subst (λ xs. AllByRecursion (IsIdleIn c.args.heap.now) xs) c.in-Some.ensures.steps.0 c.runs.invariant.idle).0 c.rest.ensures
