use Rattle.step_promote.specs.Claims.{LabelStoreTold}
use Rattle.step_promote.proofs.claiming.prepare_label.Given as goal

abbrev pub ghosts-raw_store : goal.ghosts-raw_store
ghosts-raw_store a = record { tells = LabelStoreTold a.writing.now.class }
