use Rattle.step_finalisers.specs.Registering.{LastTold}
use Rattle.step_finalisers.proofs.registering.register_last.Given as goal

abbrev pub ghosts-raw_load : goal.ghosts-raw_load
ghosts-raw_load a = record { tells = λ x _ y. LastTold a.heap.now.config a.writing.now.item a.writing.now.registered x y }
