use Rattle.step_promote.proofs.Preparing.{prepare_may, prepare_closes}
use Rattle.step_promote.proofs.claiming.prepare_store.Goals as goal

pub raw_store-requires-clause-may : goal.raw_store-requires-clause-may
raw_store-requires-clause-may c = prepare_may c.args.heap.now.config c.args.dom.now.view c.index_of-index.result c.args.at c.args.new c.args.pool c.args.class c.args.slot c.index_of-index.ensures c.requires.may

pub raw_store-requires-clause-closes : goal.raw_store-requires-clause-closes
raw_store-requires-clause-closes c = prepare_closes c.args.heap.now.config c.args.dom.now.view c.args.new c.args.at c.args.new c.args.pool c.args.class c.args.slot c.requires.may
