use Rattle.weak_laws.proofs.OfLists.StepLemmas.{thinned_listed, collector_listed}
use Rattle.weak_laws.proofs.lists.laws.lost_keys_are_listed.Goals as goal

pub returns-clause-thinned : goal.returns-clause-thinned
returns-clause-thinned c = thinned_listed

pub returns-clause-collector : goal.returns-clause-collector
returns-clause-collector c = collector_listed
