use Rattle.step_promote.specs.Claims.{HeadStoreTold}
use Rattle.step_promote.proofs.claiming.prepare_head.Given as goal

abbrev pub ghosts-raw_store : goal.ghosts-raw_store
ghosts-raw_store a = record { tells = HeadStoreTold a.writing.now.class }
