use Rattle.step_finalisers.specs.Looking.{LastLookTold}
use Rattle.step_finalisers.proofs.looking.last_look.Given as goal

abbrev pub ghosts-raw_load : goal.ghosts-raw_load
ghosts-raw_load a = record { tells = LastLookTold a.heap.now.config a.writing.now.i a.writing.now.marked a.writing.now.registered }
