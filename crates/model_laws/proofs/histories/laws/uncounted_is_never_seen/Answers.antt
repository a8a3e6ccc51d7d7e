use Rattle.model_laws.proofs.OfHistories.LostLemmas.{uncounted_law}
use Rattle.model_laws.proofs.histories.laws.uncounted_is_never_seen.Goals as goal

pub returns : goal.returns
returns c = uncounted_law
