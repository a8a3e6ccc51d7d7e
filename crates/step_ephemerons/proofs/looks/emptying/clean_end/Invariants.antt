use Rattle.step_ephemerons.specs.Looks.Emptying.{CleanEndTold}
use Rattle.step_ephemerons.proofs.looks.emptying.clean_end.Given as goal

abbrev pub ghosts-raw_load : goal.ghosts-raw_load
ghosts-raw_load a = record { tells = CleanEndTold }
