use Rattle.weak_laws.proofs.OfMaps.ExampleLemmas.{empty_once_cleaned as law}
use Rattle.weak_laws.proofs.maps.laws.cleaned_map_is_empty.Goals as goal

pub returns : goal.returns
returns c = law
