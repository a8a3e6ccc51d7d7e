use Rattle.run_threads.proofs.Placing.{began_on}
use Rattle.run_threads.proofs.beside.turn_beside.Goals as goal

pub returns-then-eq-clause-began : goal.returns-then-eq-clause-began
returns-then-eq-clause-began g c = began_on g.T.Trace.follows _ _ _ c.turns.invariant.1 c.turn_and_take-went.ensures.began

pub turns-preserved : goal.turns-preserved
turns-preserved g c = (c.turn_and_take-went.ensures.stand, began_on g.T.Trace.follows _ _ _ c.turns.invariant.1 c.turn_and_take-went.ensures.began)
