use Rattle.step_marks.specs.Marking.Marking.{Anywhere}
use Rattle.gc_mark.proofs.following.follow.Given as goal

abbrev pub ghost-scan_block : goal.ghost-scan_block
ghost-scan_block a = Anywhere
