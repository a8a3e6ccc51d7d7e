use Rattle.weak_laws.proofs.OfMaps.RespectLemmas.{put_found as law}
use Rattle.weak_laws.proofs.maps.laws.put_is_found.Goals as goal

pub returns : goal.returns
returns c = law
