use Rattle.step_finalisers.specs.Running.{RunTold}
use Rattle.step_finalisers.proofs.running.run_first.Given as goal

abbrev pub ghosts-raw_load : goal.ghosts-raw_load
ghosts-raw_load a = record { tells = λ x _ y. RunTold a.heap.now.config a.writing.now.first x y }
