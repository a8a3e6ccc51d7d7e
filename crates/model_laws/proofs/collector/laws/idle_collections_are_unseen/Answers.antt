use Rattle.model_laws.proofs.OfCollector.Idling.{idle_unseen}
use Rattle.model_laws.proofs.collector.laws.idle_collections_are_unseen.Goals as goal

pub returns : goal.returns
returns c = idle_unseen
