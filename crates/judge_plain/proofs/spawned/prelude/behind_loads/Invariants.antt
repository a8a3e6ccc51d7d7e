use Rattle.std.proofs.Common.{◌≡◌, ◌++◌}
use Rattle.judge_plain.specs.Spawned.Prelude.{loads}
use Rattle.judge_plain.proofs.spawned.prelude.behind_loads.Given as goal

abbrev pub invariant-loop-d : goal.invariant-loop-d
invariant-loop-d l = l.history ≡ loads l.d ++ l.rest
