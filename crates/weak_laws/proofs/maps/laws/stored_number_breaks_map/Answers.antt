use Rattle.weak_laws.proofs.OfMaps.ExampleLemmas.{stored_number_breaks_map as law}
use Rattle.weak_laws.proofs.maps.laws.stored_number_breaks_map.Goals as goal

pub returns : goal.returns
returns c = law
