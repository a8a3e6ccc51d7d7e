use Rattle.model_laws.proofs.OfHistories.TogetherLemmas.{taken_together_law}
use Rattle.model_laws.proofs.histories.laws.taken_together.Goals as goal

pub returns : goal.returns
returns c = taken_together_law
