use Rattle.weak_laws.proofs.OfMaps.RespectLemmas.{last_put as law}
use Rattle.weak_laws.proofs.maps.laws.lookup_answers_last_put.Goals as goal

pub returns : goal.returns
returns c = law
