use Rattle.do_fields.proofs.fields.registers.copy_as.Given as goal

abbrev pub ghost-tick : goal.ghost-tick
ghost-tick g a = g.entry
