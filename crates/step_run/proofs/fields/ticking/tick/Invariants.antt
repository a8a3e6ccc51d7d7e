use Rattle.step_run.specs.Fields.Ticks.{TickTold}
use Rattle.step_run.proofs.fields.ticking.tick.Given as goal

abbrev pub ghosts-raw_load : goal.ghosts-raw_load
ghosts-raw_load g a = record { tells = TickTold a.heap.now.config g.entry a.changes.now }
