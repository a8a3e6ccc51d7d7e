use Rattle.weak_laws.proofs.OfMaps.WithinLemmas.{other_maps_stay as law}
use Rattle.weak_laws.proofs.maps.laws.other_maps_stay.Goals as goal

pub returns : goal.returns
returns c = law
