use Rattle.heap_rule.specs.Running.{own_entry}
use Rattle.do_ephemerons.proofs.looking.check.Given as goal

abbrev pub ghost-find : goal.ghost-find
ghost-find g a = g.command

abbrev pub ghost-weak_load : goal.ghost-weak_load
ghost-weak_load g a = own_entry a.dom.now g.command
