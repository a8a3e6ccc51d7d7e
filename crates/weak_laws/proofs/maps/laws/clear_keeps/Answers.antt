use Rattle.weak_laws.proofs.OfMaps.MapLemmas.{clear_keeps as law}
use Rattle.weak_laws.proofs.maps.laws.clear_keeps.Goals as goal

pub returns : goal.returns
returns c = law
