use Rattle.step_run.specs.Young.Inits.{AllocTold}
use Rattle.step_run.proofs.young.making.head_store.Given as goal

abbrev pub ghosts-raw_store : goal.ghosts-raw_store
ghosts-raw_store g a = record { tells = λ x _ y. AllocTold a.heap.now.config g.entry a.changes.now x y }
