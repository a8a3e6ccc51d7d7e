use Rattle.weak_laws.proofs.OfTables.LawLemmas.{tables_law}
use Rattle.weak_laws.proofs.tables.laws.tables_are_thinned.Goals as goal

pub returns : goal.returns
returns c = tables_law
