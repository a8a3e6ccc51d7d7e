use Rattle.step_pools.specs.Takes.{CursorTold}
use Rattle.step_pools.proofs.taking.cursor_load.Given as goal

abbrev pub ghosts-raw_load : goal.ghosts-raw_load
ghosts-raw_load a = record { tells = CursorTold a.heap.now.config a.writing.now.count }
