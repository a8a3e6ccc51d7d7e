use Rattle.step_finalisers.specs.Registering.{FinalTold}
use Rattle.step_finalisers.proofs.registering.register_final.Given as goal

abbrev pub ghosts-raw_load : goal.ghosts-raw_load
ghosts-raw_load a = record { tells = λ x _ y. FinalTold a.heap.now.config a.writing.now.item a.writing.now.registered x y }
