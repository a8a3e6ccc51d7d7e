use Rattle.step_sweep.specs.Freeing.{AnewTold}
use Rattle.step_sweep.proofs.freeing.sweep_anew.Given as goal

abbrev pub ghosts-raw_load : goal.ghosts-raw_load
ghosts-raw_load a = record { tells = AnewTold }
