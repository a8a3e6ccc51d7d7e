use Rattle.weak_laws.proofs.OfMaps.DeepenLemmas.{deepen_keeps as law}
use Rattle.weak_laws.proofs.maps.laws.deepen_keeps.Goals as goal

pub returns : goal.returns
returns c = law
