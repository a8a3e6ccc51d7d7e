use Rattle.step_run.proofs.OfFields.Plain.{short_closes}
use Rattle.step_run.proofs.OfFields.ShortSteps.{short_may}
use Rattle.step_run.proofs.fields.shortage.short_load.Goals as goal

pub raw_load-requires-clause-may : goal.raw_load-requires-clause-may
raw_load-requires-clause-may c = short_may c.args.heap.now.config c.args.at c.args.dom.now.view c.requires.may

pub raw_load-requires-clause-closes : goal.raw_load-requires-clause-closes
raw_load-requires-clause-closes c = short_closes c.args.heap.now.config c.args.dom.now.view c.args.changes.now c.requires.unchanged
