use Rattle.step_marks.specs.Beside.Marking.{OfScan}
use Rattle.gc_mark.proofs.greys.darken_field.Given as goal

abbrev pub ghost-beside_read : goal.ghost-beside_read
ghost-beside_read g a = OfScan g.why.head

abbrev pub ghost-darken_running : goal.ghost-darken_running
ghost-darken_running g a = g.why.reason
