use Rattle.step_run.specs.Fields.Shortage.{ShortTold}
use Rattle.step_run.proofs.fields.shortage.short_load.Given as goal

abbrev pub ghosts-raw_load : goal.ghosts-raw_load
ghosts-raw_load a = record { tells = ShortTold a.heap.now.config }
