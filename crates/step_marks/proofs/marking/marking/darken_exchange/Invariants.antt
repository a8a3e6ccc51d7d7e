use Rattle.step_marks.specs.Marking.Marking.{DarkenTold}
use Rattle.step_marks.proofs.marking.marking.darken_exchange.Given as goal

abbrev pub ghosts-raw_exchange : goal.ghosts-raw_exchange
ghosts-raw_exchange g a = record { tells = DarkenTold a.heap.now.config a.old a.writing.now.at g.reason }
