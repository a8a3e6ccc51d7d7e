use Rattle.step_marks.specs.Marking.Marking.{GreyTold}
use Rattle.step_marks.proofs.marking.walking.grey_load.Given as goal

abbrev pub ghosts-raw_load : goal.ghosts-raw_load
ghosts-raw_load a = record { tells = GreyTold a.writing.now.at }
