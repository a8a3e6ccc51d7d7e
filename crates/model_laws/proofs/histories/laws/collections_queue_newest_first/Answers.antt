use Rattle.model_laws.proofs.OfHistories.NewestLemmas.{newest_law}
use Rattle.model_laws.proofs.histories.laws.collections_queue_newest_first.Goals as goal

pub returns : goal.returns
returns c = newest_law
