use Rattle.model_laws.proofs.OfHistories.LastLemmas.{lasts_wait_law}
use Rattle.model_laws.proofs.histories.laws.lasts_wait_for_all.Goals as goal

pub returns : goal.returns
returns c = lasts_wait_law
