use Rattle.model_laws.proofs.OfHistories.ReadLemmas.{seen_law}
use Rattle.model_laws.proofs.histories.laws.writes_are_seen.Goals as goal

pub returns : goal.returns
returns c = seen_law
