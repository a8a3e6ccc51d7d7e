use Rattle.weak_laws.proofs.OfTables.LawLemmas.{differ_law}
use Rattle.weak_laws.proofs.tables.laws.keys_differ.Goals as goal

pub returns : goal.returns
returns c = differ_law
