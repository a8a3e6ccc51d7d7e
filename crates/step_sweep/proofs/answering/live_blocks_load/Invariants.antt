use Rattle.step_sweep.specs.Answering.{LiveBlocksTold}
use Rattle.step_sweep.proofs.answering.live_blocks_load.Given as goal

abbrev pub ghosts-raw_load : goal.ghosts-raw_load
ghosts-raw_load a = record { tells = LiveBlocksTold a.heap.now.config }
