use Rattle.step_pauses.specs.Pauses.{PlanTold}
use Rattle.step_pauses.proofs.pausing.plan_load.Given as goal

abbrev pub ghosts-raw_load : goal.ghosts-raw_load
ghosts-raw_load a = record { tells = PlanTold }
