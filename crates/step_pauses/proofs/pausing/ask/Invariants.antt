use Rattle.step_pauses.specs.Pauses.{AskTold}
use Rattle.step_pauses.proofs.pausing.ask.Given as goal

abbrev pub ghosts-raw_or : goal.ghosts-raw_or
ghosts-raw_or a = record { tells = AskTold a.bits }
