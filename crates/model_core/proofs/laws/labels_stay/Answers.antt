use Rattle.model_core.proofs.Graphs.GraphStepLemmas.{labels_stay_law}
use Rattle.model_core.proofs.laws.labels_stay.Goals as goal

pub returns : goal.returns
returns c = labels_stay_law
