use Rattle.weak_tables.proofs.FoundLemmas.{puts_law, takes_law}
use Rattle.weak_tables.proofs.laws.other_keys_stay.Goals as goal

pub returns-clause-puts : goal.returns-clause-puts
returns-clause-puts c = puts_law

pub returns-clause-takes : goal.returns-clause-takes
returns-clause-takes c = takes_law
