use Rattle.weak_laws.proofs.OfTables.LawLemmas.{collected_law}
use Rattle.weak_laws.proofs.tables.laws.collected_keys_are_reached.Goals as goal

pub returns : goal.returns
returns c = collected_law
