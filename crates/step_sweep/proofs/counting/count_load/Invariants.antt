use Rattle.step_sweep.specs.Counting.{CountTold}
use Rattle.step_sweep.proofs.counting.count_load.Given as goal

abbrev pub ghosts-raw_load : goal.ghosts-raw_load
ghosts-raw_load a = record { tells = CountTold a.writing.now.at a.writing.now.pool a.writing.now.class a.writing.now.slot }
