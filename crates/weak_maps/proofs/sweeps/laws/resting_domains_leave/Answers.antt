use Rattle.weak_maps.proofs.OfSweeps.LawLemmas.{elsewhere_leaves, resting_leaves}
use Rattle.weak_maps.proofs.sweeps.laws.resting_domains_leave.Goals as goal

pub returns-clause-elsewhere : goal.returns-clause-elsewhere
returns-clause-elsewhere c = elsewhere_leaves

pub returns-clause-rest : goal.returns-clause-rest
returns-clause-rest c = resting_leaves
