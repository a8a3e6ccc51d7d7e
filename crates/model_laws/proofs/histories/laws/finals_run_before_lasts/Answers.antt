use Rattle.model_laws.proofs.OfHistories.LastLemmas.{finals_first_law}
use Rattle.model_laws.proofs.histories.laws.finals_run_before_lasts.Goals as goal

pub returns : goal.returns
returns c = finals_first_law
