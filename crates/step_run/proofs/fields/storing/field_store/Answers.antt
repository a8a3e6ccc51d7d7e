use Rattle.step_run.proofs.OfFields.Plain.{store_closes}
use Rattle.step_run.proofs.OfFields.StoreSteps.{field_store_may, field_store_fits}
use Rattle.step_run.proofs.fields.storing.field_store.Goals as goal

pub raw_store-requires-clause-may : goal.raw_store-requires-clause-may
raw_store-requires-clause-may g c =
    field_store_may c.args.heap.now.config c.index_of-index.result c.args.dom.now.view c.args.at c.args.new c.args.remembers g.entry c.args.changes.now c.index_of-index.ensures c.requires.1.1

pub raw_store-requires-clause-closes : goal.raw_store-requires-clause-closes
raw_store-requires-clause-closes g c =
    store_closes c.args.heap.now.config c.args.dom.now.view c.args.at c.args.new c.args.remembers g.entry c.args.changes.now c.requires.1.0
    (field_store_fits c.args.heap.now.config c.args.dom.now.view c.args.at c.args.new c.args.remembers c.args.changes.now g.entry c.requires.1.1)
