use Rattle.step_sweep.specs.Holding.{HeldOwnTold}
use Rattle.step_sweep.proofs.holding.held_own_load.Given as goal

abbrev pub ghosts-raw_load : goal.ghosts-raw_load
ghosts-raw_load a = record { tells = HeldOwnTold a.writing.now.pool }
