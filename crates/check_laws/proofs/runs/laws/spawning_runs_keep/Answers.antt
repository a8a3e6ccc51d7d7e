use Rattle.check_laws.proofs.OfRuns.Keeping.{spawning_keeps}
use Rattle.check_laws.proofs.runs.laws.spawning_runs_keep.Goals as goal

pub returns : goal.returns
returns c = spawning_keeps
