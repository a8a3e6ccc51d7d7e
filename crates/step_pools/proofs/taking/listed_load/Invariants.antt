use Rattle.step_pools.specs.Takes.{ListedTold}
use Rattle.step_pools.proofs.taking.listed_load.Given as goal

abbrev pub ghosts-raw_load : goal.ghosts-raw_load
ghosts-raw_load a = record { tells = ListedTold a.heap.now.config }
