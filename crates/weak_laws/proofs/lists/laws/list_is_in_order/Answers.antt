use Rattle.weak_laws.proofs.OfLists.OrderLemmas.{listed_in_order, found_listed, found_but_listed}
use Rattle.weak_laws.proofs.lists.laws.list_is_in_order.Goals as goal

pub returns-clause-ordered : goal.returns-clause-ordered
returns-clause-ordered c = listed_in_order

pub returns-clause-found : goal.returns-clause-found
returns-clause-found c = found_listed

pub returns-clause-rest : goal.returns-clause-rest
returns-clause-rest c = found_but_listed
