use Rattle.step_ephemerons.specs.Looks.Emptying.{CleanTold}
use Rattle.step_ephemerons.proofs.looks.emptying.clean_load.Given as goal

abbrev pub ghosts-raw_load : goal.ghosts-raw_load
ghosts-raw_load a = record { tells = CleanTold a.heap.now.config a.writing.now.at }
