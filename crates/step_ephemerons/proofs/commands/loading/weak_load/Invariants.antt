use Rattle.step_ephemerons.specs.Commands.Loads.{WeakRead}
use Rattle.step_ephemerons.proofs.commands.loading.weak_load.Given as goal

abbrev pub ghosts-raw_load : goal.ghosts-raw_load
ghosts-raw_load g a = record { tells = WeakRead a.heap.now.config g.entry a.changes.now }
