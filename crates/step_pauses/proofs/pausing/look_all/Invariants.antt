use Rattle.step_pauses.specs.Pauses.{LooksAll}
use Rattle.step_pauses.proofs.pausing.look_all.Given as goal

abbrev pub ghosts-raw_load_all : goal.ghosts-raw_load_all
ghosts-raw_load_all a = record { tells_all = LooksAll a.heap.now.config }
