use Rattle.std.proofs.Common.{◌<◌, ℕ, length}
use Rattle.run_replay.specs.Gathered.{GoneAt}
use Rattle.run_replay.specs.Moves.{IsSooner}
use Rattle.run_replay.proofs.passing.gone.Given as goal

abbrev pub invariant-others : goal.invariant-others
invariant-others l = (l.at < length l.runs) × GoneAt l.runs l.at × ((d : ℕ) → d < l.other → GoneAt l.runs d → IsSooner l.runs l.at d)
