use Rattle.step_ephemerons.specs.Looks.Rounding.{DatumTold}
use Rattle.step_ephemerons.proofs.looks.rounding.datum_load.Given as goal

abbrev pub ghosts-raw_load : goal.ghosts-raw_load
ghosts-raw_load a = record { tells = DatumTold a.heap.now.config }
