use Rattle.weak_laws.proofs.OfTables.OtherLemmas.{other_tables_law}
use Rattle.weak_laws.proofs.tables.laws.other_tables_stay.Goals as goal

pub returns : goal.returns
returns c = other_tables_law
