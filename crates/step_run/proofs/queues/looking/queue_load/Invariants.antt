use Rattle.step_run.specs.Queues.Looking.{QueueTold}
use Rattle.step_run.proofs.queues.looking.queue_load.Given as goal

abbrev pub ghosts-raw_load : goal.ghosts-raw_load
ghosts-raw_load a = record { tells = QueueTold a.heap.now.config }
