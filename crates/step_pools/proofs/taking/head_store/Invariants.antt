use Rattle.step_pools.specs.Takes.{MajorTold}
use Rattle.step_pools.proofs.taking.head_store.Given as goal

abbrev pub ghosts-raw_store : goal.ghosts-raw_store
ghosts-raw_store g a = record { tells = λ x _ y. MajorTold a.heap.now.config g.entry a.changes.now x y }
