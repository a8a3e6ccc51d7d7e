use Rattle.step_pauses.specs.Pauses.{Arrived}
use Rattle.step_pauses.proofs.pausing.arrive.Given as goal

abbrev pub ghosts-raw_add : goal.ghosts-raw_add
ghosts-raw_add a = record { tells = Arrived }
