use Rattle.run_threads.proofs.Placing.{began_on}
use Rattle.run_threads.proofs.beside.turn_and_take.Goals as goal

pub returns-then-taken-clause-began : goal.returns-then-taken-clause-began
returns-then-taken-clause-began g c = began_on g.T.Trace.follows _ _ _ c.turn_here-went.ensures.began c.take_all_back-taken.ensures.began

pub returns-clause-began : goal.returns-clause-began
returns-clause-began g c = began_on g.T.Trace.follows _ _ _ c.turn_here-went.ensures.began c.take_all_back-taken.ensures.began
