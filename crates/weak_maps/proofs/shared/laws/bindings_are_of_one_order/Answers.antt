use Rattle.weak_maps.proofs.OfShared.OrderLemmas.{bindings_are_of_one_order as bindings_are_of_one_order_law}
use Rattle.weak_maps.proofs.shared.laws.bindings_are_of_one_order.Goals as goal

pub returns : goal.returns
returns c = bindings_are_of_one_order_law
