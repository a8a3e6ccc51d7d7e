use Rattle.step_pauses.specs.Pauses.{ClearTold}
use Rattle.step_pauses.proofs.pausing.want_clear.Given as goal

abbrev pub ghosts-raw_store : goal.ghosts-raw_store
ghosts-raw_store a = record { tells = ClearTold }
