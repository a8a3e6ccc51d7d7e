use Rattle.step_sweep.specs.Answering.{LiveWordsTold}
use Rattle.step_sweep.proofs.answering.live_words_load.Given as goal

abbrev pub ghosts-raw_load : goal.ghosts-raw_load
ghosts-raw_load a = record { tells = LiveWordsTold a.heap.now.config a.writing.now.blocks }
