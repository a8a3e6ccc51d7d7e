use Rattle.step_run.specs.Fields.Loads.{LabelTold}
use Rattle.step_run.proofs.fields.loading.label_load.Given as goal

abbrev pub ghosts-raw_load : goal.ghosts-raw_load
ghosts-raw_load g a = record { tells = LabelTold a.heap.now.config g.register }
