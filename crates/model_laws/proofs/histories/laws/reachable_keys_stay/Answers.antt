use Rattle.model_laws.proofs.OfHistories.WeakLemmas.{reachable_keys_law}
use Rattle.model_laws.proofs.histories.laws.reachable_keys_stay.Goals as goal

pub returns : goal.returns
returns c = reachable_keys_law
