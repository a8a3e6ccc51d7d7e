use Rattle.do_fields.proofs.fields.fields.shown_register.Given as goal

abbrev pub ghost-label_load : goal.ghost-label_load
ghost-label_load g a = g.register
