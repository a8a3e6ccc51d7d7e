use Rattle.weak_laws.proofs.OfTables.LawLemmas.{arrays_law}
use Rattle.weak_laws.proofs.tables.laws.arrays_are_thinned.Goals as goal

pub returns : goal.returns
returns c = arrays_law
