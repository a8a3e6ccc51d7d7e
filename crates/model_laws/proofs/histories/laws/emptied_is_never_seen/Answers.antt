use Rattle.model_laws.proofs.OfHistories.LostLemmas.{emptied_law}
use Rattle.model_laws.proofs.histories.laws.emptied_is_never_seen.Goals as goal

pub returns : goal.returns
returns c = emptied_law
