use Rattle.weak_laws.proofs.OfLists.StepLemmas.{set_listed, set_binds_listed, taken_listed}
use Rattle.weak_laws.proofs.lists.laws.set_is_listed.Goals as goal

pub returns-clause-rest : goal.returns-clause-rest
returns-clause-rest c = set_listed

pub returns-clause-binds : goal.returns-clause-binds
returns-clause-binds c = set_binds_listed

pub returns-clause-taken : goal.returns-clause-taken
returns-clause-taken c = taken_listed
