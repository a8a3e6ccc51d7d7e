use Rattle.model_laws.proofs.OfHistories.WeakLemmas.{keys_stay_law}
use Rattle.model_laws.proofs.histories.laws.weak_keys_stay.Goals as goal

pub returns : goal.returns
returns c = keys_stay_law
