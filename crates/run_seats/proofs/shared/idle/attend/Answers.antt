use Rattle.run_seats.proofs.OfShared.Idling.{idle_turn}
use Rattle.run_seats.proofs.shared.idle.attend.Goals as goal

pub returns-clause-here : goal.returns-clause-here
returns-clause-here c = (idle_turn c.args.heap.now c.args.run.now c.turn_below.new.run c.requires.here c.turn_below.ensures.here c.turn_below.ensures.goes_on c.turn_below.ensures.stretch).0

pub returns-clause-stays : goal.returns-clause-stays
returns-clause-stays c = (idle_turn c.args.heap.now c.args.run.now c.turn_below.new.run c.requires.here c.turn_below.ensures.here c.turn_below.ensures.goes_on c.turn_below.ensures.stretch).1
