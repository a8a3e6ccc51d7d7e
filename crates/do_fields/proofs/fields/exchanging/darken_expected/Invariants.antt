use Rattle.do_fields.proofs.fields.exchanging.darken_expected.Given as goal

abbrev pub ghost-darken_now : goal.ghost-darken_now
ghost-darken_now g a = g.reason
