use Rattle.step_sweep.proofs.VoidSteps.{void_may, void_closes}
use Rattle.step_sweep.proofs.returning.list_void.Goals as goal

pub raw_store-requires-clause-may : goal.raw_store-requires-clause-may
raw_store-requires-clause-may c = void_may c.args.heap.now.config c.args.dom.now.view c.requires.returns

pub raw_store-requires-clause-closes : goal.raw_store-requires-clause-closes
raw_store-requires-clause-closes c = void_closes c.args.heap.now.config c.args.dom.now.view
