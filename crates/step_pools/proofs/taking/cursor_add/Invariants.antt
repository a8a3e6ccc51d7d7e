use Rattle.step_pools.specs.Takes.{CursorAddTold}
use Rattle.step_pools.proofs.taking.cursor_add.Given as goal

abbrev pub ghosts-raw_add : goal.ghosts-raw_add
ghosts-raw_add a = record { tells = CursorAddTold a.heap.now.config a.writing.now.count a.writing.now.class }
