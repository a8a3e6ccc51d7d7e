use Rattle.weak_tables.proofs.FoundLemmas.{lookups_law}
use Rattle.weak_tables.proofs.laws.lookups_find.Goals as goal

pub returns : goal.returns
returns c = lookups_law
