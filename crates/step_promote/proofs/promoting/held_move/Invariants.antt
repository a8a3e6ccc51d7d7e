use Rattle.step_promote.specs.Promotion.{HeldMoveTold}
use Rattle.step_promote.proofs.promoting.held_move.Given as goal

abbrev pub ghosts-raw_load : goal.ghosts-raw_load
ghosts-raw_load a = record { tells = HeldMoveTold a.heap.now.config a.writing.now.held a.writing.now.copy }
