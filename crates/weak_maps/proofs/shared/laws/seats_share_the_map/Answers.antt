use Rattle.weak_maps.proofs.OfShared.CommandLemmas.{seats_share_the_map as seats_share_the_map_law}
use Rattle.weak_maps.proofs.OfShared.SharingLemmas.{stretches_add}
use Rattle.weak_maps.proofs.shared.laws.seats_share_the_map.Goals as goal

pub returns-clause-add : goal.returns-clause-add
returns-clause-add c = stretches_add

pub returns-clause-share : goal.returns-clause-share
returns-clause-share c = seats_share_the_map_law
