use Rattle.model_cycle.proofs.Leaving.{left_law}
use Rattle.model_cycle.proofs.laws.rest_is_marked.Goals as goal

pub returns : goal.returns
returns c = left_law
