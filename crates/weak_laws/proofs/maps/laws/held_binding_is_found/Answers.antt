use Rattle.weak_laws.proofs.OfMaps.RespectLemmas.{held_found as law}
use Rattle.weak_laws.proofs.maps.laws.held_binding_is_found.Goals as goal

pub returns : goal.returns
returns c = law
