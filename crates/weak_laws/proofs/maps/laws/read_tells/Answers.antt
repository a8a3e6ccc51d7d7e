use Rattle.weak_laws.proofs.OfMaps.StayLemmas.{read_tells as law}
use Rattle.weak_laws.proofs.maps.laws.read_tells.Goals as goal

pub returns : goal.returns
returns c = law
