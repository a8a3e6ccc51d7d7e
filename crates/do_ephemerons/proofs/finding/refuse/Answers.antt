use Rattle.do_ephemerons.proofs.Refusals.{tick_refused}
use Rattle.do_ephemerons.proofs.finding.refuse.Goals as goal

pub returns-clause-refused : goal.returns-clause-refused
returns-clause-refused g c = tick_refused c.args.heap.now c.args.dom.now c.tick.new.dom g.command c.requires.1.0 c.requires.0 c.tick.ensures.here c.tick.ensures.entered
