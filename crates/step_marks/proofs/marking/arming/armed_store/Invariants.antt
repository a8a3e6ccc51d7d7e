use Rattle.step_marks.specs.Marking.Arming.{ArmedTold}
use Rattle.step_marks.proofs.marking.arming.armed_store.Given as goal

abbrev pub ghosts-raw_store : goal.ghosts-raw_store
ghosts-raw_store a = record { tells = ArmedTold }
