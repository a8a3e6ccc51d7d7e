use Rattle.weak_laws.proofs.OfMaps.ExampleLemmas.{deepen_is_a_step, bound_deeper}
use Rattle.weak_laws.proofs.maps.laws.leaf_goes_deeper.Goals as goal

pub returns-clause-step : goal.returns-clause-step
returns-clause-step c = deepen_is_a_step

pub returns-clause-bound : goal.returns-clause-bound
returns-clause-bound c = bound_deeper
