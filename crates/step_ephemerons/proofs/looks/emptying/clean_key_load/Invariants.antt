use Rattle.step_ephemerons.specs.Looks.Emptying.{CleanKeyTold}
use Rattle.step_ephemerons.proofs.looks.emptying.clean_key_load.Given as goal

abbrev pub ghosts-raw_load : goal.ghosts-raw_load
ghosts-raw_load a = record { tells = CleanKeyTold a.heap.now.config }
