use Rattle.step_finalisers.proofs.Plain.{run_closes}
use Rattle.step_finalisers.proofs.RunSteps.{run_may}
use Rattle.step_finalisers.proofs.running.run_first.Goals as goal

pub raw_load-requires-clause-may : goal.raw_load-requires-clause-may
raw_load-requires-clause-may c = run_may c.args.heap.now.config c.args.dom.now.view 0 c.args.first c.requires.may

pub raw_load-requires-clause-closes : goal.raw_load-requires-clause-closes
raw_load-requires-clause-closes c = λ found. run_closes c.args.heap.now.config c.args.dom.now.view found c.args.first c.requires.may
