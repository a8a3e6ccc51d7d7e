use Rattle.step_sweep.proofs.AnswerSteps.{live_words_may, live_words_closes}
use Rattle.step_sweep.proofs.answering.live_words_load.Goals as goal

pub raw_load-requires-clause-may : goal.raw_load-requires-clause-may
raw_load-requires-clause-may c = live_words_may c.args.heap.now.config c.args.dom.now.view c.args.blocks c.requires.may

pub raw_load-requires-clause-closes : goal.raw_load-requires-clause-closes
raw_load-requires-clause-closes c = λ found. live_words_closes c.args.heap.now.config c.args.dom.now.view found c.args.blocks
