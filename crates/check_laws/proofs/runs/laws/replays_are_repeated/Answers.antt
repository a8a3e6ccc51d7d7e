use Rattle.check_laws.proofs.OfRuns.Repeating.{repeated_replays}
use Rattle.check_laws.proofs.runs.laws.replays_are_repeated.Goals as goal

pub returns : goal.returns
returns c = repeated_replays
