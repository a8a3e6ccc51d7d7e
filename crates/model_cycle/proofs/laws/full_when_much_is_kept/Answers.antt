use Rattle.model_cycle.proofs.Keeping.{fullness_law}
use Rattle.model_cycle.proofs.laws.full_when_much_is_kept.Goals as goal

pub returns : goal.returns
returns c = fullness_law
