use Rattle.model_traces.proofs.OfSchedules.Steps.{step_law}
use Rattle.model_traces.proofs.schedules.laws.steps_answer_alike.Goals as goal

pub returns : goal.returns
returns c = step_law
