use Rattle.step_sweep.specs.Counting.{BlocksAdded}
use Rattle.step_sweep.proofs.counting.blocks_add.Given as goal

abbrev pub ghosts-raw_add : goal.ghosts-raw_add
ghosts-raw_add a = record { tells = BlocksAdded }
