use Rattle.step_run.specs.Fields.Loads.{FieldRead}
use Rattle.step_run.proofs.fields.loading.field_load.Given as goal

abbrev pub ghosts-raw_load : goal.ghosts-raw_load
ghosts-raw_load g a = record { tells = FieldRead a.heap.now.config g.entry a.changes.now }
