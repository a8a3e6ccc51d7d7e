use Rattle.judge_outputs.proofs.OfSections.RowLemmas.{shared_row}
use Rattle.judge_outputs.proofs.sections.laws.rows.Goals as goal

pub returns : goal.returns
returns c = shared_row
