use Rattle.step_marks.specs.Marking.Marking.{ScannedTold}
use Rattle.step_marks.proofs.marking.scanning.scanned_store.Given as goal

abbrev pub ghosts-raw_store : goal.ghosts-raw_store
ghosts-raw_store g a = record { tells = ScannedTold a.writing.now.at g.site }
