use Rattle.model_cycle.proofs.Cycling.{taking_steps}
use Rattle.model_cycle.proofs.laws.entries_are_allowed.Goals as goal

pub returns : goal.returns
returns c = taking_steps
