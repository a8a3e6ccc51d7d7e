use Rattle.weak_laws.proofs.OfLists.FoundLemmas.{listed_is_found as found_law, listed_once}
use Rattle.weak_laws.proofs.lists.laws.listed_is_found.Goals as goal

pub returns-clause-found : goal.returns-clause-found
returns-clause-found c = found_law

pub returns-clause-once : goal.returns-clause-once
returns-clause-once c = listed_once
