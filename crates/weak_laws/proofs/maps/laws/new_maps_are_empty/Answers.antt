use Rattle.weak_laws.proofs.OfMaps.OwnLemmas.{new_map_is_empty as law}
use Rattle.weak_laws.proofs.maps.laws.new_maps_are_empty.Goals as goal

pub returns : goal.returns
returns c = law
