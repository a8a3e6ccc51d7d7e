use Rattle.step_pools.specs.Takes.{ListTold}
use Rattle.step_pools.proofs.taking.list_load.Given as goal

abbrev pub ghosts-raw_load : goal.ghosts-raw_load
ghosts-raw_load a = record { tells = ListTold }
