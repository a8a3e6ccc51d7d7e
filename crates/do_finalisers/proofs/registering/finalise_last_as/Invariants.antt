use Rattle.do_finalisers.proofs.registering.finalise_last_as.Given as goal

abbrev pub ghost-tick : goal.ghost-tick
ghost-tick g a = g.entry
