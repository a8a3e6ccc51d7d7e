use Rattle.heap_rule.specs.Meeting.{Levels}
use Rattle.heap_rule.proofs.heap.Heap.meet.Given as goal

abbrev pub ghosts-load_together : goal.ghosts-load_together
ghosts-load_together a = record { tells_all = Levels a.table.now.key }
