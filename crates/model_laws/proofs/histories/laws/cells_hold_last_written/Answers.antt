use Rattle.model_laws.proofs.OfHistories.CellLemmas.{cells_law}
use Rattle.model_laws.proofs.histories.laws.cells_hold_last_written.Goals as goal

pub returns : goal.returns
returns c = cells_law
