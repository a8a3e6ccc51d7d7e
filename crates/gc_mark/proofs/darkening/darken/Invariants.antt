use Rattle.gc_mark.proofs.darkening.darken.Given as goal

abbrev pub ghost-target_load : goal.ghost-target_load
ghost-target_load g a = g.reason

abbrev pub ghost-darken_exchange : goal.ghost-darken_exchange
ghost-darken_exchange g a = g.reason
