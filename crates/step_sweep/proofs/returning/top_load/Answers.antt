use Rattle.step_sweep.proofs.SweepWrites.{top_closes}
use Rattle.step_sweep.proofs.VoidSteps.{top_may}
use Rattle.step_sweep.proofs.returning.top_load.Goals as goal

pub raw_load-requires-clause-may : goal.raw_load-requires-clause-may
raw_load-requires-clause-may c = top_may c.args.heap.now.config c.args.dom.now.view c.args.at c.args.pool c.requires.may

pub raw_load-requires-clause-closes : goal.raw_load-requires-clause-closes
raw_load-requires-clause-closes c = λ found. top_closes c.args.heap.now.config c.args.dom.now.view found c.args.pool c.args.at c.requires.may
