use Rattle.step_sweep.proofs.SweepSteps.{anew_may}
use Rattle.step_sweep.proofs.SweepWrites.{anew_closes}
use Rattle.step_sweep.proofs.freeing.sweep_anew.Goals as goal

pub raw_load-requires-clause-may : goal.raw_load-requires-clause-may
raw_load-requires-clause-may c = anew_may c.args.heap.now.config c.args.dom.now.view c.requires.may

pub raw_load-requires-clause-closes : goal.raw_load-requires-clause-closes
raw_load-requires-clause-closes c = λ found. anew_closes c.args.heap.now.config c.args.dom.now.view found
