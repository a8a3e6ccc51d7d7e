use Rattle.step_pools.specs.Ephemerons.{EpheTold}
use Rattle.step_pools.proofs.taking.ephe_store.Given as goal

abbrev pub ghosts-raw_store : goal.ghosts-raw_store
ghosts-raw_store g a = record { tells = λ x _ y. EpheTold a.heap.now.config g.entry a.writing.now.at a.changes.now x y }
