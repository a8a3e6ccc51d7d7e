use Rattle.weak_laws.proofs.OfMaps.RespectLemmas.{respected_map as law}
use Rattle.weak_laws.proofs.maps.laws.respected_map_stays.Goals as goal

pub returns : goal.returns
returns c = law
