use Rattle.step_finalisers.specs.Looking.{FinalLookTold}
use Rattle.step_finalisers.proofs.looking.final_look.Given as goal

abbrev pub ghosts-raw_load : goal.ghosts-raw_load
ghosts-raw_load a = record { tells = FinalLookTold a.heap.now.config a.writing.now.i a.writing.now.marked a.writing.now.registered }
