use Rattle.step_ephemerons.specs.Looks.Rounding.{EphemeronTold}
use Rattle.step_ephemerons.proofs.looks.rounding.ephemeron_load.Given as goal

abbrev pub ghosts-raw_load : goal.ghosts-raw_load
ghosts-raw_load a = record { tells = EphemeronTold a.heap.now.config a.writing.now.at }
