use Rattle.step_sweep.proofs.PruneSteps.{prune_may, prune_closes}
use Rattle.step_sweep.proofs.pruning.prune_load.Goals as goal

pub raw_load-requires-clause-may : goal.raw_load-requires-clause-may
raw_load-requires-clause-may c = prune_may c.args.heap.now.config c.args.dom.now.view c.index_of-index.result c.args.at c.args.i c.args.garbage c.index_of-index.ensures c.requires.may

pub raw_load-requires-clause-closes : goal.raw_load-requires-clause-closes
raw_load-requires-clause-closes c = λ found. prune_closes c.args.heap.now.config c.args.dom.now.view found c.args.at c.args.i c.args.garbage c.requires.may
