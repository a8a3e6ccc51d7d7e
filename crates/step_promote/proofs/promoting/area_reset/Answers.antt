use Rattle.step_promote.proofs.Resets.{reset_may, reset_closes}
use Rattle.step_promote.proofs.promoting.area_reset.Goals as goal

pub raw_store-requires-clause-may : goal.raw_store-requires-clause-may
raw_store-requires-clause-may c = reset_may c.args.heap.now.config c.args.dom.now.view c.index_of-index.result c.args.at 0 c.index_of-index.ensures c.requires.may

pub raw_store-requires-clause-closes : goal.raw_store-requires-clause-closes
raw_store-requires-clause-closes c = reset_closes c.args.heap.now.config c.args.dom.now.view 0 c.args.at c.requires.may
