use Rattle.step_run.proofs.OfFields.Plain.{label_closes}
use Rattle.step_run.proofs.OfFields.LoadSteps.{label_load_may}
use Rattle.step_run.proofs.fields.loading.label_load.Goals as goal

pub raw_load-requires-clause-may : goal.raw_load-requires-clause-may
raw_load-requires-clause-may g c = label_load_may c.args.heap.now.config c.index_of-index.result c.args.dom.now.view c.args.at g.register c.index_of-index.ensures c.requires.1.1.0

pub raw_load-requires-clause-closes : goal.raw_load-requires-clause-closes
raw_load-requires-clause-closes g c = label_closes c.args.heap.now.config c.args.dom.now.view g.register c.args.changes.now c.requires.1.1.1
