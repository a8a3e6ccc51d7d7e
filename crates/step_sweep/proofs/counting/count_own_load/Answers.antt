use Rattle.step_sweep.proofs.CountSteps.{count_own_closes}
use Rattle.step_sweep.proofs.CountSteps.{count_own_may}
use Rattle.step_sweep.proofs.counting.count_own_load.Goals as goal

pub raw_load-requires-clause-may : goal.raw_load-requires-clause-may
raw_load-requires-clause-may c = count_own_may c.args.heap.now.config c.args.dom.now.view c.args.at c.args.pool c.requires.may

pub raw_load-requires-clause-closes : goal.raw_load-requires-clause-closes
raw_load-requires-clause-closes c = λ found. count_own_closes c.args.heap.now.config c.args.dom.now.view found c.args.pool
