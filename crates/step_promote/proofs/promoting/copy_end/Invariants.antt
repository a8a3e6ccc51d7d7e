use Rattle.step_promote.specs.Promotion.{FilledTold}
use Rattle.step_promote.proofs.promoting.copy_end.Given as goal

abbrev pub ghosts-raw_load : goal.ghosts-raw_load
ghosts-raw_load a = record { tells = FilledTold }
