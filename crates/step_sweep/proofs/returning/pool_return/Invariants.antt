use Rattle.step_sweep.specs.Returning.{ReturnTold}
use Rattle.step_sweep.proofs.returning.pool_return.Given as goal

abbrev pub ghosts-raw_store : goal.ghosts-raw_store
ghosts-raw_store a = record { tells = ReturnTold a.writing.now.pool }
