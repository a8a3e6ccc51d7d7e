use Rattle.do_fields.proofs.darkening.darkening.darken_beside.Given as goal

abbrev pub ghost-beside_target_load : goal.ghost-beside_target_load
ghost-beside_target_load g a = g.reason

abbrev pub ghost-beside_darken : goal.ghost-beside_darken
ghost-beside_darken g a = g.reason
