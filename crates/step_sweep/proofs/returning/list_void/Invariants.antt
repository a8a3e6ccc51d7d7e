use Rattle.step_sweep.specs.Returning.{ListVoided}
use Rattle.step_sweep.proofs.returning.list_void.Given as goal

abbrev pub ghosts-raw_store : goal.ghosts-raw_store
ghosts-raw_store a = record { tells = ListVoided }
