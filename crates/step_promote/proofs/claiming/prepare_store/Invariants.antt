use Rattle.step_promote.specs.Claims.{PrepareTold}
use Rattle.step_promote.proofs.claiming.prepare_store.Given as goal

abbrev pub ghosts-raw_store : goal.ghosts-raw_store
ghosts-raw_store a = record { tells = PrepareTold a.writing.now.at a.writing.now.class }
