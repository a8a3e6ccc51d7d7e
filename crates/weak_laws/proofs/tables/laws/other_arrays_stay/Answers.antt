use Rattle.weak_laws.proofs.OfTables.OtherLemmas.{other_arrays_law}
use Rattle.weak_laws.proofs.tables.laws.other_arrays_stay.Goals as goal

pub returns : goal.returns
returns c = other_arrays_law
