use Rattle.model_traces.proofs.OfScheduled.Completing.{complete_law}
use Rattle.model_traces.proofs.scheduled.laws.complete_is_legal.Goals as goal

pub returns : goal.returns
returns c = complete_law
