use Rattle.step_marks.specs.Beside.Marking.{Expected}
use Rattle.do_fields.proofs.fields.exchanging.cas_as.Given as goal

abbrev pub ghost-tick : goal.ghost-tick
ghost-tick g a = g.entry

abbrev pub ghost-head_load : goal.ghost-head_load
ghost-head_load g a = g.entry

abbrev pub ghost-field_exchange : goal.ghost-field_exchange
ghost-field_exchange g a = g.entry

abbrev pub ghost-darken_expected : goal.ghost-darken_expected
ghost-darken_expected g a = Expected a.r
