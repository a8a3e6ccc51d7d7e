use Rattle.step_run.proofs.OfFields.Plain.{tick_closes}
use Rattle.step_run.proofs.OfFields.TickSteps.{tick_may}
use Rattle.step_run.proofs.fields.ticking.tick.Goals as goal

pub raw_load-requires-clause-may : goal.raw_load-requires-clause-may
raw_load-requires-clause-may g c = tick_may c.args.heap.now.config c.args.at c.args.dom.now.view g.entry c.args.changes.now c.requires.1.1

pub raw_load-requires-clause-closes : goal.raw_load-requires-clause-closes
raw_load-requires-clause-closes g c = tick_closes c.args.heap.now.config c.args.dom.now.view g.entry c.args.changes.now c.requires.1.1.fits
