use Rattle.step_sweep.specs.Returning.{TopTold}
use Rattle.step_sweep.proofs.returning.top_load.Given as goal

abbrev pub ghosts-raw_load : goal.ghosts-raw_load
ghosts-raw_load a = record { tells = TopTold a.writing.now.pool }
