use Rattle.step_sweep.proofs.AddSteps.{words_add_may, words_add_closes}
use Rattle.step_sweep.proofs.counting.words_add.Goals as goal

pub raw_add-requires-clause-may : goal.raw_add-requires-clause-may
raw_add-requires-clause-may c = words_add_may c.args.heap.now.config c.args.dom.now.view c.args.amount c.requires.may

pub raw_add-requires-clause-closes : goal.raw_add-requires-clause-closes
raw_add-requires-clause-closes c = λ found. words_add_closes c.args.heap.now.config c.args.dom.now.view found
