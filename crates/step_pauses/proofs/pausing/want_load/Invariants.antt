use Rattle.step_pauses.specs.Pauses.{WantTold}
use Rattle.step_pauses.proofs.pausing.want_load.Given as goal

abbrev pub ghosts-raw_load : goal.ghosts-raw_load
ghosts-raw_load a = record { tells = WantTold a.heap.now.config }
