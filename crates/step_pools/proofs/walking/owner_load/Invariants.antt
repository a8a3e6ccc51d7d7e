use Rattle.step_pools.specs.Takes.{OwnerTold}
use Rattle.step_pools.proofs.walking.owner_load.Given as goal

abbrev pub ghosts-raw_load : goal.ghosts-raw_load
ghosts-raw_load a = record { tells = OwnerTold a.heap.now.config a.writing.now.pool a.writing.now.class }
