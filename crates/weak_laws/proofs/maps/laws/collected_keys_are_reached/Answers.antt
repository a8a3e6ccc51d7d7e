use Rattle.weak_laws.proofs.OfMaps.ReachLemmas.{collected_law as law}
use Rattle.weak_laws.proofs.maps.laws.collected_keys_are_reached.Goals as goal

pub returns : goal.returns
returns c = law
