use Rattle.step_marks.specs.Marking.Marking.{Field}
use Rattle.gc_mark.proofs.scanning.scan_field.Given as goal

abbrev pub ghost-darken : goal.ghost-darken
ghost-darken a = Field
