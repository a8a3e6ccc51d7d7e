use Rattle.weak_maps.proofs.OfShared.OrderLemmas.{takes_differ as takes_differ_law}
use Rattle.weak_maps.proofs.shared.laws.no_binding_is_taken_twice.Goals as goal

pub returns : goal.returns
returns c = takes_differ_law
