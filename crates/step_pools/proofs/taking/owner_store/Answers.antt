use Rattle.step_pools.proofs.Plain.{owned_closes}
use Rattle.step_pools.proofs.TakeSteps.{owner_may}
use Rattle.step_pools.proofs.taking.owner_store.Goals as goal

pub raw_store-requires-clause-may : goal.raw_store-requires-clause-may
raw_store-requires-clause-may c = owner_may c.args.heap.now.config c.args.dom.now.view c.requires.takes c.args.at c.args.new c.args.pool c.args.class c.requires.may

pub raw_store-requires-clause-closes : goal.raw_store-requires-clause-closes
raw_store-requires-clause-closes c = owned_closes c.args.heap.now.config c.args.dom.now.view c.args.new c.args.pool c.args.class c.requires.inside.0 c.requires.inside.1 c.config-limits.ensures.limits
