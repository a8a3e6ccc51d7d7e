use Rattle.step_ephemerons.specs.Looks.Rounding.{KeyTold}
use Rattle.step_ephemerons.proofs.looks.rounding.key_load.Given as goal

abbrev pub ghosts-raw_load : goal.ghosts-raw_load
ghosts-raw_load a = record { tells = KeyTold a.heap.now.config }
