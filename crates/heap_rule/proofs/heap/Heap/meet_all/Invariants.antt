use Rattle.heap_rule.specs.Meeting.{Levels}
use Rattle.heap_rule.proofs.heap.Heap.meet_all.Given as goal

abbrev pub ghosts-raw_load_all : goal.ghosts-raw_load_all
ghosts-raw_load_all a = record { tells_all = Levels a.heap.now.config }
