use Rattle.step_pools.specs.Takes.{ClearTold}
use Rattle.step_pools.proofs.taking.clear_store.Given as goal

abbrev pub ghosts-raw_store : goal.ghosts-raw_store
ghosts-raw_store a = record { tells = ClearTold }
