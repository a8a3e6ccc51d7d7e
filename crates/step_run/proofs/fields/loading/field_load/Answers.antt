use Rattle.step_run.proofs.OfFields.Plain.{field_load_closes}
use Rattle.step_run.proofs.OfFields.LoadSteps.{field_load_may, field_load_fits}
use Rattle.step_run.proofs.fields.loading.field_load.Goals as goal

pub raw_load-requires-clause-may : goal.raw_load-requires-clause-may
raw_load-requires-clause-may g c = field_load_may c.args.heap.now.config c.index_of-index.result c.args.dom.now.view c.args.at g.entry c.args.changes.now c.index_of-index.ensures c.requires.1.1

pub raw_load-requires-clause-closes : goal.raw_load-requires-clause-closes
raw_load-requires-clause-closes g c = field_load_closes c.args.heap.now.config c.args.dom.now.view g.entry c.args.changes.now
    (field_load_fits c.args.heap.now.config c.args.dom.now.view c.args.at c.args.changes.now g.entry c.requires.1.1)
