use Rattle.weak_laws.proofs.OfTables.UniqueLemmas.{layout_law}
use Rattle.weak_laws.proofs.tables.laws.layout_is_one.Goals as goal

pub returns : goal.returns
returns c = layout_law
