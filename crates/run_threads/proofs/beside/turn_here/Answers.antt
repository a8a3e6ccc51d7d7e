use Rattle.run_threads.proofs.Placing.{began_on}
use Rattle.run_threads.proofs.beside.turn_here.Goals as goal

pub returns-clause-began : goal.returns-clause-began
returns-clause-began g c = began_on g.T.Trace.follows _ _ _ c.turn_those-busy.ensures.began c.turn_those-idle.ensures.began
