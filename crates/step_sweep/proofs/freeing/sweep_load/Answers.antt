use Rattle.step_sweep.proofs.SweepSteps.{sweep_may}
use Rattle.step_sweep.proofs.SweepWrites.{sweep_closes}
use Rattle.step_sweep.proofs.freeing.sweep_load.Goals as goal

pub raw_load-requires-clause-may : goal.raw_load-requires-clause-may
raw_load-requires-clause-may c = sweep_may c.args.heap.now.config c.args.dom.now.view c.index_of-index.result c.args.at c.args.pool c.args.class c.args.slot c.args.garbage c.index_of-index.ensures c.requires.may

pub raw_load-requires-clause-closes : goal.raw_load-requires-clause-closes
raw_load-requires-clause-closes c = λ found. sweep_closes c.args.heap.now.config c.args.dom.now.view found c.args.pool c.args.class c.args.slot c.args.garbage c.requires.pool c.requires.may.few c.requires.may.inside c.config-limits.ensures.limits
