use Rattle.std.proofs.Common.{◌≡◌}
use Rattle.run_seats.proofs.performing.help_any.Given as goal

abbrev pub invariant-resting : goal.invariant-resting
invariant-resting g l = l.keeper ≡ l.initial.keeper
