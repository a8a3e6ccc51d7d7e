use Rattle.weak_tables.proofs.FoundLemmas.{bindings_law}
use Rattle.weak_tables.proofs.laws.bindings_are_found.Goals as goal

pub returns : goal.returns
returns c = bindings_law
