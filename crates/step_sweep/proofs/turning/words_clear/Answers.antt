use Rattle.step_sweep.proofs.ClearSteps.{words_may, words_closes}
use Rattle.step_sweep.proofs.turning.words_clear.Goals as goal

pub raw_store-requires-clause-may : goal.raw_store-requires-clause-may
raw_store-requires-clause-may c = words_may c.args.heap.now.config c.args.dom.now.view c.requires.may

pub raw_store-requires-clause-closes : goal.raw_store-requires-clause-closes
raw_store-requires-clause-closes c = words_closes c.args.heap.now.config c.args.dom.now.view
