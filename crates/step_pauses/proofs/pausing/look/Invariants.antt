use Rattle.step_pauses.specs.Pauses.{LookTold}
use Rattle.step_pauses.proofs.pausing.look.Given as goal

abbrev pub ghosts-raw_load : goal.ghosts-raw_load
ghosts-raw_load a = record { tells = LookTold a.heap.now.config }
