use Rattle.model_laws.proofs.OfHistories.WeakLemmas.{data_go_law}
use Rattle.model_laws.proofs.histories.laws.data_go_with_keys.Goals as goal

pub returns : goal.returns
returns c = data_go_law
