use Rattle.step_marks.specs.Beside.Marking.{DarkenTold}
use Rattle.step_marks.proofs.beside.marking.beside_darken.Given as goal

abbrev pub ghosts-raw_exchange : goal.ghosts-raw_exchange
ghosts-raw_exchange g a = record { tells = DarkenTold a.old a.writing.now.at g.reason }
