use Rattle.weak_laws.proofs.OfMaps.StayLemmas.{blocks_stay as law}
use Rattle.weak_laws.proofs.maps.laws.blocks_stay.Goals as goal

pub returns : goal.returns
returns c = law
