use Rattle.step_sweep.proofs.TurnSteps.{turn_may, turn_closes}
use Rattle.step_sweep.proofs.turning.colours_store.Goals as goal

pub raw_store-requires-clause-may : goal.raw_store-requires-clause-may
raw_store-requires-clause-may c = turn_may c.args.heap.now.config c.args.dom.now.view c.args.new c.requires.may

pub raw_store-requires-clause-closes : goal.raw_store-requires-clause-closes
raw_store-requires-clause-closes c = turn_closes c.args.heap.now.config c.args.dom.now.view c.args.new
