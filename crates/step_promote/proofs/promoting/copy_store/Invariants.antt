use Rattle.step_promote.specs.Promotion.{FillTold}
use Rattle.step_promote.proofs.promoting.copy_store.Given as goal

abbrev pub ghosts-raw_store : goal.ghosts-raw_store
ghosts-raw_store a = record { tells = FillTold }
