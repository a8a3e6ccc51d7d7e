use Rattle.step_promote.specs.Promotion.{ResetTold}
use Rattle.step_promote.proofs.promoting.area_reset.Given as goal

abbrev pub ghosts-raw_store : goal.ghosts-raw_store
ghosts-raw_store a = record { tells = ResetTold a.heap.now.config }
