use Rattle.step_promote.specs.Promotion.{RewriteTold}
use Rattle.step_promote.proofs.promoting.remembered_store.Given as goal

abbrev pub ghosts-raw_store : goal.ghosts-raw_store
ghosts-raw_store a = record { tells = RewriteTold a.writing.now.at }
