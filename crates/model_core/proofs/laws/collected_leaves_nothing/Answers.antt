use Rattle.model_core.proofs.Collections.CollectedLemmas.{collected_law}
use Rattle.model_core.proofs.laws.collected_leaves_nothing.Goals as goal

pub returns : goal.returns
returns c = collected_law
