use Rattle.step_sweep.proofs.AnswerSteps.{live_blocks_may, live_blocks_closes}
use Rattle.step_sweep.proofs.answering.live_blocks_load.Goals as goal

pub raw_load-requires-clause-may : goal.raw_load-requires-clause-may
raw_load-requires-clause-may c = live_blocks_may c.args.heap.now.config c.args.dom.now.view c.requires.stage

pub raw_load-requires-clause-closes : goal.raw_load-requires-clause-closes
raw_load-requires-clause-closes c = λ found. live_blocks_closes c.args.heap.now.config c.args.dom.now.view found
