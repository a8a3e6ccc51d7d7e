use Rattle.weak_maps.proofs.OfShared.OrderLemmas.{put_is_found_by_all as put_is_found_by_all_law}
use Rattle.weak_maps.proofs.shared.laws.no_put_is_lost.Goals as goal

pub returns : goal.returns
returns c = put_is_found_by_all_law
