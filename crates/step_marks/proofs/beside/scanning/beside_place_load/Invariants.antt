use Rattle.step_marks.specs.Beside.Marking.{PlaceTold}
use Rattle.step_marks.proofs.beside.scanning.beside_place_load.Given as goal

abbrev pub ghosts-raw_load : goal.ghosts-raw_load
ghosts-raw_load a = record { tells = PlaceTold a.writing.now.at }
