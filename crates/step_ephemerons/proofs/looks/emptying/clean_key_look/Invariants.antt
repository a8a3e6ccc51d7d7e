use Rattle.step_ephemerons.specs.Looks.Emptying.{CleanLookTold}
use Rattle.step_ephemerons.proofs.looks.emptying.clean_key_look.Given as goal

abbrev pub ghosts-raw_load : goal.ghosts-raw_load
ghosts-raw_load a = record { tells = CleanLookTold }
