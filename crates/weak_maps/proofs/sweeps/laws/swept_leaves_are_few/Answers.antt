use Rattle.weak_maps.proofs.OfSweeps.LawLemmas.{swept_few, swept_keys, swept_lived}
use Rattle.weak_maps.proofs.sweeps.laws.swept_leaves_are_few.Goals as goal

pub returns-clause-lived : goal.returns-clause-lived
returns-clause-lived c = swept_lived

pub returns-clause-few : goal.returns-clause-few
returns-clause-few c = swept_few

pub returns-clause-keys : goal.returns-clause-keys
returns-clause-keys c = swept_keys
