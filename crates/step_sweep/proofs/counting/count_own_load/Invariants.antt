use Rattle.step_sweep.specs.Counting.{CountOwnTold}
use Rattle.step_sweep.proofs.counting.count_own_load.Given as goal

abbrev pub ghosts-raw_load : goal.ghosts-raw_load
ghosts-raw_load a = record { tells = CountOwnTold a.writing.now.pool }
