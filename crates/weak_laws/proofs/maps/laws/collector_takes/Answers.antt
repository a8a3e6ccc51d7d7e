use Rattle.weak_laws.proofs.OfMaps.TakeLemmas.{collector_takes as law}
use Rattle.weak_laws.proofs.maps.laws.collector_takes.Goals as goal

pub returns : goal.returns
returns c = law
