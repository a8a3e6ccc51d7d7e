use Rattle.weak_maps.proofs.OfShared.OrderLemmas.{found_was_put as found_was_put_law}
use Rattle.weak_maps.proofs.shared.laws.what_is_found_was_put.Goals as goal

pub returns : goal.returns
returns c = found_was_put_law
