use Rattle.weak_laws.proofs.OfMaps.EmptyLemmas.{empty_keeps as law}
use Rattle.weak_laws.proofs.maps.laws.empty_keeps.Goals as goal

pub returns : goal.returns
returns c = law
