use Rattle.step_marks.specs.Beside.Marking.{TargetTold}
use Rattle.step_marks.proofs.beside.marking.beside_target_load.Given as goal

abbrev pub ghosts-raw_load : goal.ghosts-raw_load
ghosts-raw_load g a = record { tells = TargetTold a.writing.now.at g.reason }
