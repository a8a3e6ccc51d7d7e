use Rattle.model_laws.proofs.OfHistories.LostLemmas.{marks_law}
use Rattle.model_laws.proofs.histories.laws.marks_hold_all_left.Goals as goal

pub returns : goal.returns
returns c = marks_law
