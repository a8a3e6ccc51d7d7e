use Rattle.step_pools.proofs.Plain.{major_closes}
use Rattle.step_pools.proofs.MajorSteps.{major_fits, major_serial}
use Rattle.step_pools.proofs.MajorSteps.{major_may}
use Rattle.step_pools.proofs.taking.head_store.Goals as goal

pub raw_store-requires-clause-may : goal.raw_store-requires-clause-may
raw_store-requires-clause-may g c = major_may c.args.heap.now.config c.index_of-index.result c.args.dom.now.view c.args.at c.args.new g.entry c.args.changes.now c.index_of-index.ensures c.requires.1.1

pub raw_store-requires-clause-closes : goal.raw_store-requires-clause-closes
raw_store-requires-clause-closes g c = major_closes c.args.heap.now.config c.args.dom.now.view c.args.new g.entry c.args.changes.now (major_fits c.args.heap.now.config c.args.dom.now.view c.args.at c.args.new c.args.changes.now g.entry c.requires.1.1) (major_serial c.args.heap.now.config c.args.dom.now.view c.args.at c.args.new c.args.changes.now g.entry c.requires.1.1)
