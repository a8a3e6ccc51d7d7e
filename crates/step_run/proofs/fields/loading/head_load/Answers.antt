use Rattle.step_run.proofs.OfFields.Plain.{head_closes}
use Rattle.step_run.proofs.OfFields.LoadSteps.{head_load_may}
use Rattle.step_run.proofs.fields.loading.head_load.Goals as goal

pub raw_load-requires-clause-may : goal.raw_load-requires-clause-may
raw_load-requires-clause-may g c = head_load_may c.args.heap.now.config c.index_of-index.result c.args.dom.now.view c.args.at g.entry c.index_of-index.ensures c.requires.1.1.0

pub raw_load-requires-clause-closes : goal.raw_load-requires-clause-closes
raw_load-requires-clause-closes g c = head_closes c.args.heap.now.config c.args.dom.now.view c.args.at g.entry c.args.changes.now c.requires.1.1.1
