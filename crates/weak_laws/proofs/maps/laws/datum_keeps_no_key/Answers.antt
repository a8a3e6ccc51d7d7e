use Rattle.weak_laws.proofs.OfMaps.ReachLemmas.{datum_law as law}
use Rattle.weak_laws.proofs.maps.laws.datum_keeps_no_key.Goals as goal

pub returns : goal.returns
returns c = law
