use Rattle.step_marks.specs.Marking.Marking.{MarkTold}
use Rattle.step_marks.proofs.marking.walking.mark_load.Given as goal

abbrev pub ghosts-raw_load : goal.ghosts-raw_load
ghosts-raw_load a = record { tells = MarkTold a.writing.now.at a.writing.now.pool a.writing.now.class a.writing.now.slot }
