use Rattle.model_laws.proofs.OfHistories.WeakLemmas.{data_stay_law}
use Rattle.model_laws.proofs.histories.laws.data_stay.Goals as goal

pub returns : goal.returns
returns c = data_stay_law
