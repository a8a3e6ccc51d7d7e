use Rattle.step_run.specs.Young.Inits.{WordTold}
use Rattle.step_run.proofs.young.making.word_store.Given as goal

abbrev pub ghosts-raw_store : goal.ghosts-raw_store
ghosts-raw_store a = record { tells = λ x _ y. WordTold a.new x y }
