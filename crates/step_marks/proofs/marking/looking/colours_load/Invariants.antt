use Rattle.step_marks.specs.Marking.Looks.{ColoursTold}
use Rattle.step_marks.proofs.marking.looking.colours_load.Given as goal

abbrev pub ghosts-raw_load : goal.ghosts-raw_load
ghosts-raw_load a = record { tells = ColoursTold a.heap.now.config }
