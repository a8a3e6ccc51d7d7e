use Rattle.step_sweep.specs.Holding.{HeldTold}
use Rattle.step_sweep.proofs.holding.held_load.Given as goal

abbrev pub ghosts-raw_load : goal.ghosts-raw_load
ghosts-raw_load a = record { tells = HeldTold a.writing.now.pool a.writing.now.slot }
