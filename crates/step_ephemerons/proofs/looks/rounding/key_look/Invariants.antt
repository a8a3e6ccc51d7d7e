use Rattle.step_ephemerons.specs.Looks.Rounding.{KeyLookTold}
use Rattle.step_ephemerons.proofs.looks.rounding.key_look.Given as goal

abbrev pub ghosts-raw_load : goal.ghosts-raw_load
ghosts-raw_load a = record { tells = KeyLookTold }
