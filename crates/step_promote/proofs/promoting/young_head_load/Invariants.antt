use Rattle.step_promote.specs.Promotion.{HeadMet}
use Rattle.step_promote.proofs.promoting.young_head_load.Given as goal

abbrev pub ghosts-raw_load : goal.ghosts-raw_load
ghosts-raw_load a = record { tells = HeadMet a.heap.now.config a.writing.now.at }
