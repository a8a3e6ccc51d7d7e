use Rattle.step_pools.specs.Takes.{CopyDrawTold}
use Rattle.step_pools.proofs.taking.copy_draw.Given as goal

abbrev pub ghosts-raw_add : goal.ghosts-raw_add
ghosts-raw_add a = record { tells = CopyDrawTold a.heap.now.config a.writing.now.class }
