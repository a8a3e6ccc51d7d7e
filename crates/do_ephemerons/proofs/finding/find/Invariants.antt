use Rattle.heap_rule.specs.Running.{own_entry}
use Rattle.do_ephemerons.proofs.finding.find.Given as goal

abbrev pub ghost-refuse : goal.ghost-refuse
ghost-refuse g a = g.command

abbrev pub ghost-ephe_head_load : goal.ghost-ephe_head_load
ghost-ephe_head_load g a = own_entry a.dom.now g.command
