use Rattle.step_sweep.specs.Turning.{BlocksCleared}
use Rattle.step_sweep.proofs.turning.blocks_clear.Given as goal

abbrev pub ghosts-raw_store : goal.ghosts-raw_store
ghosts-raw_store a = record { tells = BlocksCleared }
