use Rattle.step_pools.specs.Takes.{YoungTold}
use Rattle.step_pools.proofs.taking.young_look.Given as goal

abbrev pub ghosts-raw_load : goal.ghosts-raw_load
ghosts-raw_load a = record { tells = YoungTold a.heap.now.config }
