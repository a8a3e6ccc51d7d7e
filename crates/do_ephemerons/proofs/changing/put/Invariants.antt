use Rattle.do_ephemerons.proofs.changing.put.Given as goal

abbrev pub ghost-find : goal.ghost-find
ghost-find g a = g.command

abbrev pub ghost-store_word : goal.ghost-store_word
ghost-store_word g a = g.command

abbrev pub ghost-refuse : goal.ghost-refuse
ghost-refuse g a = g.command
