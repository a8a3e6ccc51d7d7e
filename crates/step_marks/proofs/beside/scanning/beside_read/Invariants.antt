use Rattle.step_marks.specs.Beside.Marking.{ReadTold}
use Rattle.step_marks.proofs.beside.scanning.beside_read.Given as goal

abbrev pub ghosts-raw_load : goal.ghosts-raw_load
ghosts-raw_load g a = record { tells = ReadTold a.heap.now.config a.writing.now.pool a.writing.now.class }
