use Rattle.step_run.specs.Fields.Loads.{HeadTold}
use Rattle.step_run.proofs.fields.loading.head_load.Given as goal

abbrev pub ghosts-raw_load : goal.ghosts-raw_load
ghosts-raw_load g a = record { tells = HeadTold a.heap.now.config a.writing.now.at g.entry }
