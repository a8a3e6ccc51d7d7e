use Rattle.step_promote.specs.Promotion.{ValueMet}
use Rattle.step_promote.proofs.promoting.young_field_load.Given as goal

abbrev pub ghosts-raw_load : goal.ghosts-raw_load
ghosts-raw_load a = record { tells = ValueMet a.heap.now.config a.writing.now.at a.writing.now.place }
