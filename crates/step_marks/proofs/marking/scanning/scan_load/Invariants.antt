use Rattle.step_marks.specs.Marking.Marking.{ScanTold}
use Rattle.step_marks.proofs.marking.scanning.scan_load.Given as goal

abbrev pub ghosts-raw_load : goal.ghosts-raw_load
ghosts-raw_load a = record { tells = ScanTold a.heap.now.config }
