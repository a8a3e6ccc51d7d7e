use Rattle.model_core.proofs.Graphs.GraphStepLemmas.{nodes_stay_law}
use Rattle.model_core.proofs.laws.nodes_stay.Goals as goal

pub returns : goal.returns
returns c = nodes_stay_law
