use Rattle.do_fields.proofs.darkening.darkening.darken_now.Given as goal

abbrev pub ghost-darken_beside : goal.ghost-darken_beside
ghost-darken_beside g a = g.reason
