use Rattle.run_seats.proofs.Closed.{closed_turn}
use Rattle.run_seats.proofs.closing.close_turn.Goals as goal

pub returns-clause-here : goal.returns-clause-here
returns-clause-here c = (closed_turn c.args.heap.now c.args.run.now c.turn_below.new.run c.requires.here c.turn_below.ensures.here c.turn_below.ensures.goes_on c.turn_below.ensures.stretch).0

pub returns-clause-stays : goal.returns-clause-stays
returns-clause-stays c = (closed_turn c.args.heap.now c.args.run.now c.turn_below.new.run c.requires.here c.turn_below.ensures.here c.turn_below.ensures.goes_on c.turn_below.ensures.stretch).1
