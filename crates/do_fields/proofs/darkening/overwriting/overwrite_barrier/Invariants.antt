use Rattle.step_marks.specs.Beside.Marking.{Field}
use Rattle.do_fields.proofs.darkening.overwriting.overwrite_barrier.Given as goal

abbrev pub ghost-darken_overwritten : goal.ghost-darken_overwritten
ghost-darken_overwritten g a = record { register = g.register; reason = Field a.block a.field }
