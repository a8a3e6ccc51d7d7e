use Rattle.weak_laws.proofs.OfTables.FoundLemmas.{found_law}
use Rattle.weak_laws.proofs.tables.laws.bound_while_reached.Goals as goal

pub returns : goal.returns
returns c = found_law
