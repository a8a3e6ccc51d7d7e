use Rattle.model_laws.proofs.OfHistories.LostLemmas.{taken_law}
use Rattle.model_laws.proofs.histories.laws.taken_is_never_seen.Goals as goal

pub returns : goal.returns
returns c = taken_law
