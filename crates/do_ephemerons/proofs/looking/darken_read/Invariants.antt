use Rattle.do_ephemerons.proofs.looking.darken_read.Given as goal

abbrev pub ghost-darken_now : goal.ghost-darken_now
ghost-darken_now g a = g.reason
