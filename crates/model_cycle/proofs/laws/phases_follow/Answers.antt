use Rattle.model_cycle.proofs.Cycling.{phase_steps}
use Rattle.model_cycle.proofs.laws.phases_follow.Goals as goal

pub returns : goal.returns
returns c = phase_steps
