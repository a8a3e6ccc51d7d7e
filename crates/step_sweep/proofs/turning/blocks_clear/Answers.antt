use Rattle.step_sweep.proofs.ClearSteps.{blocks_may, blocks_closes}
use Rattle.step_sweep.proofs.turning.blocks_clear.Goals as goal

pub raw_store-requires-clause-may : goal.raw_store-requires-clause-may
raw_store-requires-clause-may c = blocks_may c.args.heap.now.config c.args.dom.now.view c.requires.may

pub raw_store-requires-clause-closes : goal.raw_store-requires-clause-closes
raw_store-requires-clause-closes c = blocks_closes c.args.heap.now.config c.args.dom.now.view
