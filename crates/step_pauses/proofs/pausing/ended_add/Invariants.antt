use Rattle.step_pauses.specs.Pauses.{EndTold}
use Rattle.step_pauses.proofs.pausing.ended_add.Given as goal

abbrev pub ghosts-raw_add : goal.ghosts-raw_add
ghosts-raw_add a = record { tells = EndTold a.heap.now.config }
