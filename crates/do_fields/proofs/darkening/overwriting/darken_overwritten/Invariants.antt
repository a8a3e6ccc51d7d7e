use Rattle.step_marks.specs.Beside.Marking.{OfRegister}
use Rattle.do_fields.proofs.darkening.overwriting.darken_overwritten.Given as goal

abbrev pub ghost-beside_read : goal.ghost-beside_read
ghost-beside_read g a = OfRegister g.why.register

abbrev pub ghost-darken_now : goal.ghost-darken_now
ghost-darken_now g a = g.why.reason
