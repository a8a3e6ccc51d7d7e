use Rattle.std.proofs.Common.{ap}
use Rattle.heap_rule.specs.declared.config.Config.{Config}
use Rattle.step_sweep.proofs.SweepSteps.{sweep_own_may}
use Rattle.step_sweep.proofs.SweepWrites.{sweep_own_closes}
use Rattle.step_sweep.proofs.freeing.sweep_own_load.Goals as goal

pub raw_load-requires-clause-may : goal.raw_load-requires-clause-may
raw_load-requires-clause-may c = sweep_own_may c.args.heap.now.config c.args.dom.now.view c.args.at c.args.pool c.requires.may

pub raw_load-requires-clause-closes : goal.raw_load-requires-clause-closes
raw_load-requires-clause-closes c = λ found. sweep_own_closes c.args.heap.now.config c.args.dom.now.view found c.config-limits.result.pools c.args.pool (ap (λ (k : Config). k.pools) c.config-limits.ensures.value) c.requires.may.inside c.config-limits.ensures.limits
