use Rattle.weak_laws.proofs.OfMaps.MapLemmas.{step_tells as law}
use Rattle.weak_laws.proofs.maps.laws.steps_tell.Goals as goal

pub returns : goal.returns
returns c = law
