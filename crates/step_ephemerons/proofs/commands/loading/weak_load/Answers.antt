use Rattle.step_ephemerons.proofs.OfCommands.Plain.{weak_load_closes}
use Rattle.step_ephemerons.proofs.OfCommands.WeakLoadSteps.{weak_load_may, weak_load_fits}
use Rattle.step_ephemerons.proofs.commands.loading.weak_load.Goals as goal

pub raw_load-requires-clause-may : goal.raw_load-requires-clause-may
raw_load-requires-clause-may g c = weak_load_may c.args.heap.now.config c.index_of-index.result c.args.dom.now.view c.args.at g.entry c.args.changes.now c.index_of-index.ensures c.requires.1.1

pub raw_load-requires-clause-closes : goal.raw_load-requires-clause-closes
raw_load-requires-clause-closes g c = weak_load_closes c.args.heap.now.config c.args.dom.now.view g.entry c.args.changes.now
    (weak_load_fits c.args.heap.now.config c.args.dom.now.view c.args.at c.args.changes.now g.entry c.requires.1.1)
