use Rattle.model_laws.proofs.OfCollector.Blindness.{unseen}
use Rattle.model_laws.proofs.collector.laws.collector_is_unseen.Goals as goal

pub returns : goal.returns
returns c = unseen
