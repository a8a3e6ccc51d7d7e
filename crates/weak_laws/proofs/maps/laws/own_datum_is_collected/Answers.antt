use Rattle.weak_laws.proofs.OfMaps.ExampleLemmas.{legal_example, put_is_a_step, bound_while_held, unbound_afterwards, none_leaves_it}
use Rattle.weak_laws.proofs.maps.laws.own_datum_is_collected.Goals as goal

pub returns-clause-legal : goal.returns-clause-legal
returns-clause-legal c = legal_example

pub returns-clause-step : goal.returns-clause-step
returns-clause-step c = put_is_a_step

pub returns-clause-bound : goal.returns-clause-bound
returns-clause-bound c = bound_while_held

pub returns-clause-unbound : goal.returns-clause-unbound
returns-clause-unbound c = unbound_afterwards

pub returns-clause-none : goal.returns-clause-none
returns-clause-none c = none_leaves_it
