use Rattle.gc_mark.proofs.darkening.darken_running.Given as goal

abbrev pub ghost-darken_beside : goal.ghost-darken_beside
ghost-darken_beside g a = g.reason
