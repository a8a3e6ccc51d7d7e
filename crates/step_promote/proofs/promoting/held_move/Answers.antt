use Rattle.step_promote.proofs.HeldSteps.{held_move_may, held_move_closes}
use Rattle.step_promote.proofs.promoting.held_move.Goals as goal

pub raw_load-requires-clause-may : goal.raw_load-requires-clause-may
raw_load-requires-clause-may c = held_move_may c.args.heap.now.config c.args.dom.now.view c.index_of-index.result c.args.held c.args.copy c.requires.may

pub raw_load-requires-clause-closes : goal.raw_load-requires-clause-closes
raw_load-requires-clause-closes c = λ found. held_move_closes c.args.heap.now.config c.args.dom.now.view found c.args.held c.args.copy c.requires.may
