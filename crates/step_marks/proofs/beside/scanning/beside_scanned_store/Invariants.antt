use Rattle.step_marks.specs.Beside.Marking.{ScannedTold}
use Rattle.step_marks.proofs.beside.scanning.beside_scanned_store.Given as goal

abbrev pub ghosts-raw_store : goal.ghosts-raw_store
ghosts-raw_store a = record { tells = ScannedTold a.writing.now.at }
