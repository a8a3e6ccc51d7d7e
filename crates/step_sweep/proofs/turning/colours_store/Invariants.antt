use Rattle.step_sweep.specs.Turning.{TurnTold}
use Rattle.step_sweep.proofs.turning.colours_store.Given as goal

abbrev pub ghosts-raw_store : goal.ghosts-raw_store
ghosts-raw_store a = record { tells = TurnTold }
