use Rattle.std.proofs.Common.{ap}
use Rattle.heap_rule.specs.declared.config.Config.{Config}
use Rattle.step_pools.proofs.Plain.{place_closes}
use Rattle.step_pools.proofs.TakeSteps.{place_may}
use Rattle.step_pools.proofs.walking.place_load.Goals as goal

pub raw_load-requires-clause-may : goal.raw_load-requires-clause-may
raw_load-requires-clause-may c = place_may c.args.heap.now.config c.args.dom.now.view c.requires.takes c.index_of-index.result c.args.at c.args.pool c.args.class c.args.slot c.index_of-index.ensures c.requires.may

pub raw_load-requires-clause-closes : goal.raw_load-requires-clause-closes
raw_load-requires-clause-closes c = λ found. place_closes c.args.heap.now.config c.args.dom.now.view found c.config-pools.result.pools c.args.pool c.args.class c.args.slot (ap (λ (k : Config). k.pools) c.config-pools.ensures.value) c.requires.few.2 c.requires.few.0 c.requires.may.inside c.config-pools.ensures.limits
