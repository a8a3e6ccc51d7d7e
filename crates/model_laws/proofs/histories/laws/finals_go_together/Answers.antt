use Rattle.model_laws.proofs.OfHistories.TogetherLemmas.{finals_together_law}
use Rattle.model_laws.proofs.histories.laws.finals_go_together.Goals as goal

pub returns : goal.returns
returns c = finals_together_law
