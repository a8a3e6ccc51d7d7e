use Rattle.step_pools.specs.Takes.{OwnedTold}
use Rattle.step_pools.proofs.taking.owner_store.Given as goal

abbrev pub ghosts-raw_store : goal.ghosts-raw_store
ghosts-raw_store a = record { tells = OwnedTold a.writing.now.pool a.writing.now.class }
