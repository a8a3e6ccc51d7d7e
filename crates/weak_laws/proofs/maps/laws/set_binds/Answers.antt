use Rattle.weak_laws.proofs.OfMaps.SetLemmas.{set_binds as law}
use Rattle.weak_laws.proofs.maps.laws.set_binds.Goals as goal

pub returns : goal.returns
returns c = law
