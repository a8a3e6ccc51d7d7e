use Rattle.std.proofs.Common.{ap}
use Rattle.heap_rule.specs.declared.config.Config.{Config}
use Rattle.step_pools.proofs.Plain.{owner_closes}
use Rattle.step_pools.proofs.TakeSteps.{owner_load_may}
use Rattle.step_pools.proofs.walking.owner_load.Goals as goal

pub raw_load-requires-clause-may : goal.raw_load-requires-clause-may
raw_load-requires-clause-may c = owner_load_may c.args.heap.now.config c.args.dom.now.view c.requires.takes c.args.at c.args.pool c.args.class c.requires.may

pub raw_load-requires-clause-closes : goal.raw_load-requires-clause-closes
raw_load-requires-clause-closes c = λ found. owner_closes c.args.heap.now.config c.args.dom.now.view found c.config-limits.result.pools c.args.pool c.args.class (ap (λ (k : Config). k.pools) c.config-limits.ensures.value) c.requires.may.inside c.requires.may.of_class c.config-limits.ensures.limits
