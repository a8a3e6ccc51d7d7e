use Rattle.step_pauses.specs.Pauses.{EndedTold}
use Rattle.step_pauses.proofs.pausing.ended_load.Given as goal

abbrev pub ghosts-raw_load : goal.ghosts-raw_load
ghosts-raw_load a = record { tells = EndedTold a.heap.now.config }
