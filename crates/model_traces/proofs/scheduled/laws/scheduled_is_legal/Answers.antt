use Rattle.model_traces.proofs.OfScheduled.Turns.{scheduled_law}
use Rattle.model_traces.proofs.scheduled.laws.scheduled_is_legal.Goals as goal

pub returns : goal.returns
returns c = scheduled_law
