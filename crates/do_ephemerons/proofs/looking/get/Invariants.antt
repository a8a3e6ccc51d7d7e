use Rattle.step_marks.specs.Beside.Marking.{Weak}
use Rattle.heap_rule.specs.Running.{own_entry}
use Rattle.do_ephemerons.proofs.looking.get.Given as goal

abbrev pub ghost-find : goal.ghost-find
ghost-find g a = g.command

abbrev pub ghost-weak_load : goal.ghost-weak_load
ghost-weak_load g a = own_entry a.dom.now g.command

abbrev pub ghost-shown_register : goal.ghost-shown_register
ghost-shown_register g a = a.r

abbrev pub ghost-darken_read : goal.ghost-darken_read
ghost-darken_read g a = Weak a.r
