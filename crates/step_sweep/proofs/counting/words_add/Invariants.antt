use Rattle.step_sweep.specs.Counting.{WordsAdded}
use Rattle.step_sweep.proofs.counting.words_add.Given as goal

abbrev pub ghosts-raw_add : goal.ghosts-raw_add
ghosts-raw_add a = record { tells = WordsAdded }
