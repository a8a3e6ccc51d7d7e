use Rattle.step_marks.specs.Marking.Marking.{OwnTold}
use Rattle.step_marks.proofs.marking.walking.own_load.Given as goal

abbrev pub ghosts-raw_load : goal.ghosts-raw_load
ghosts-raw_load a = record { tells = OwnTold a.writing.now.pool }
