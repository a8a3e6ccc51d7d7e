use Rattle.model_core.proofs.Histories.WellFormedLemmas.{reach_after}
use Rattle.model_core.proofs.laws.reach_is_least.Goals as goal

pub returns : goal.returns
returns c = reach_after
