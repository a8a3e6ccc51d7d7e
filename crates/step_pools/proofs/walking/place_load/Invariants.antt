use Rattle.step_pools.specs.Takes.{PlaceTold}
use Rattle.step_pools.proofs.walking.place_load.Given as goal

abbrev pub ghosts-raw_load : goal.ghosts-raw_load
ghosts-raw_load a = record { tells = PlaceTold a.heap.now.config a.writing.now.pool a.writing.now.class a.writing.now.slot }
