use Rattle.step_promote.specs.Promotion.{Recalled}
use Rattle.step_promote.proofs.promoting.remembered_load.Given as goal

abbrev pub ghosts-raw_load : goal.ghosts-raw_load
ghosts-raw_load a = record { tells = Recalled a.heap.now.config a.writing.now.at }
