use Rattle.step_sweep.proofs.ReturnSteps.{return_may, return_closes}
use Rattle.step_sweep.proofs.returning.pool_return.Goals as goal

pub raw_store-requires-clause-may : goal.raw_store-requires-clause-may
raw_store-requires-clause-may c = return_may c.args.heap.now.config c.args.dom.now.view c.args.at c.args.pool c.args.class c.requires.may

pub raw_store-requires-clause-closes : goal.raw_store-requires-clause-closes
raw_store-requires-clause-closes c = return_closes c.args.heap.now.config c.args.dom.now.view c.args.pool
