use Rattle.heap_rule.specs.Running.{own_entry}
use Rattle.do_ephemerons.proofs.finding.refuse.Given as goal

abbrev pub ghost-tick : goal.ghost-tick
ghost-tick g a = own_entry a.dom.now g.command
