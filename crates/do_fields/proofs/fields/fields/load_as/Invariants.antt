use Rattle.do_fields.proofs.fields.fields.load_as.Given as goal

abbrev pub ghost-tick : goal.ghost-tick
ghost-tick g a = g.entry

abbrev pub ghost-head_load : goal.ghost-head_load
ghost-head_load g a = g.entry

abbrev pub ghost-field_load : goal.ghost-field_load
ghost-field_load g a = g.entry

abbrev pub ghost-shown_register : goal.ghost-shown_register
ghost-shown_register g a = a.r
