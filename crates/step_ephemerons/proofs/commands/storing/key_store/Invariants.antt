use Rattle.step_run.specs.Fields.Stores.{StoreTold}
use Rattle.step_ephemerons.proofs.commands.storing.key_store.Given as goal

abbrev pub ghosts-raw_store : goal.ghosts-raw_store
ghosts-raw_store g a = record { tells = λ x _ y. StoreTold a.heap.now.config g.entry a.writing.now.at a.writing.now.remembers a.changes.now x y }
