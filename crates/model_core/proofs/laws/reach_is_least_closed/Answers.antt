use Rattle.model_core.proofs.Reach.ReachLemmas.{reach_law}
use Rattle.model_core.proofs.laws.reach_is_least_closed.Goals as goal

pub returns : goal.returns
returns c = reach_law
