use Rattle.model_core.proofs.Collections.CollectedLemmas.{counts_law}
use Rattle.model_core.proofs.laws.full_major_counts_reach.Goals as goal

pub returns : goal.returns
returns c = counts_law
