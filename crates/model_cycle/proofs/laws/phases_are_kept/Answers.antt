use Rattle.model_cycle.proofs.Cycling.{darkening_steps}
use Rattle.model_cycle.proofs.laws.phases_are_kept.Goals as goal

pub returns : goal.returns
returns c = darkening_steps
