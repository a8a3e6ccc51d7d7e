use Rattle.weak_laws.proofs.OfMaps.MapLemmas.{map_stays as map_law, places_stay as places_law}
use Rattle.weak_laws.proofs.maps.laws.map_stays.Goals as goal

pub returns-clause-map : goal.returns-clause-map
returns-clause-map c = map_law

pub returns-clause-places : goal.returns-clause-places
returns-clause-places c = places_law
