use Rattle.step_marks.specs.Marking.Arming.{ArmedTold}
use Rattle.step_marks.proofs.marking.arming.armed_load.Given as goal

abbrev pub ghosts-raw_load : goal.ghosts-raw_load
ghosts-raw_load a = record { tells = ArmedTold }
