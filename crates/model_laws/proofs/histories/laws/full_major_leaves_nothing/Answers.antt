use Rattle.model_laws.proofs.OfHistories.HeldLemmas.{spent_law}
use Rattle.model_laws.proofs.histories.laws.full_major_leaves_nothing.Goals as goal

pub returns : goal.returns
returns c = spent_law
