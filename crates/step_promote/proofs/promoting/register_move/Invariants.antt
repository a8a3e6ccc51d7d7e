use Rattle.step_promote.specs.Promotion.{MoveTold}
use Rattle.step_promote.proofs.promoting.register_move.Given as goal

abbrev pub ghosts-raw_load : goal.ghosts-raw_load
ghosts-raw_load a = record { tells = MoveTold a.heap.now.config a.writing.now.register a.writing.now.copy }
