use Rattle.step_marks.proofs.OfBeside.Plain.{pool_closes}
use Rattle.step_marks.proofs.OfBeside.LookSteps.{pool_may}
use Rattle.step_marks.proofs.beside.scanning.beside_owner_load.Goals as goal

pub raw_load-requires-clause-may : goal.raw_load-requires-clause-may
raw_load-requires-clause-may c = pool_may c.args.heap.now.config c.args.dom.now.view c.args.at c.args.word c.args.pool c.requires.may

pub raw_load-requires-clause-closes : goal.raw_load-requires-clause-closes
raw_load-requires-clause-closes c = λ found. pool_closes c.args.heap.now.config c.args.dom.now.view found c.args.at c.args.pool
