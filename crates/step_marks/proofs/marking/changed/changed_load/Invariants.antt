use Rattle.step_marks.specs.Marking.Changed.{FindTold}
use Rattle.step_marks.proofs.marking.changed.changed_load.Given as goal

abbrev pub ghosts-raw_load : goal.ghosts-raw_load
ghosts-raw_load a = record { tells = FindTold }
