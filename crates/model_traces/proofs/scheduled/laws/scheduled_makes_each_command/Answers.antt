use Rattle.model_traces.proofs.OfScheduled.Rounds.{makes_law}
use Rattle.model_traces.proofs.scheduled.laws.scheduled_makes_each_command.Goals as goal

pub returns : goal.returns
returns c = makes_law
