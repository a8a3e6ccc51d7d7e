use Rattle.step_sweep.specs.Freeing.{SweepOwnTold}
use Rattle.step_sweep.proofs.freeing.sweep_own_load.Given as goal

abbrev pub ghosts-raw_load : goal.ghosts-raw_load
ghosts-raw_load a = record { tells = SweepOwnTold a.heap.now.config a.writing.now.pool }
