use Rattle.do_finalisers.proofs.running.held_label.Given as goal

abbrev pub ghost-shown_register : goal.ghost-shown_register
ghost-shown_register a = a.r
