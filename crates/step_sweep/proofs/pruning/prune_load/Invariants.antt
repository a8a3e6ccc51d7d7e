use Rattle.step_sweep.specs.Pruning.{PruneTold}
use Rattle.step_sweep.proofs.pruning.prune_load.Given as goal

abbrev pub ghosts-raw_load : goal.ghosts-raw_load
ghosts-raw_load a = record { tells = PruneTold a.writing.now.at a.writing.now.i a.writing.now.garbage }
