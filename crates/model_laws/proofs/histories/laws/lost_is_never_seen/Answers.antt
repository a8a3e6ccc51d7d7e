use Rattle.model_laws.proofs.OfHistories.LostLemmas.{lost_law}
use Rattle.model_laws.proofs.histories.laws.lost_is_never_seen.Goals as goal

pub returns : goal.returns
returns c = lost_law
