use Rattle.std.proofs.Common.{◌≡◌, ◌<◌, ℕ, None}
use Rattle.run_turns.specs.Runs.{RunView}
use Rattle.run_replay.specs.Gathered.{HasRun}
use Rattle.run_replay.proofs.passing.first_gone.Given as goal

abbrev pub invariant-domains : goal.invariant-domains
invariant-domains l = (d : ℕ) (r : RunView) → d < l.at → HasRun l.runs d r → r.left ≡ None
