use Rattle.std.proofs.Common.{◌≡◌}
use Rattle.run_alone.specs.Lone.{IsLone, StandsAs, Tells}
use Rattle.step_finalisers.specs.Registering.{count_of}
use Rattle.run_alone.proofs.trying.try_on.Given as goal

abbrev pub invariant-tries : goal.invariant-tries
invariant-tries l = IsLone l.heap l.run × StandsAs l.initial.run l.run × Tells l.heap l.initial.run l.run × (l.next ≡ l.initial.run.next)

abbrev pub decreases-tries : goal.decreases-tries
decreases-tries l = count_of l.run.token.view.own.finalisers
