use Rattle.model_cycle.proofs.Beside.{beside_law}
use Rattle.model_cycle.proofs.laws.law_beside.Goals as goal

pub returns : goal.returns
returns c = beside_law
