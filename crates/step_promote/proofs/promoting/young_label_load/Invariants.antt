use Rattle.step_promote.specs.Promotion.{LabelMet}
use Rattle.step_promote.proofs.promoting.young_label_load.Given as goal

abbrev pub ghosts-raw_load : goal.ghosts-raw_load
ghosts-raw_load a = record { tells = LabelMet a.writing.now.at }
