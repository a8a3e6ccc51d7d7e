use Rattle.step_marks.proofs.OfBeside.Plain.{read_closes}
use Rattle.step_marks.proofs.OfBeside.ReadSteps.{read_may}
use Rattle.step_marks.proofs.beside.scanning.beside_read.Goals as goal

pub raw_load-requires-clause-may : goal.raw_load-requires-clause-may
raw_load-requires-clause-may g c = read_may c.args.heap.now.config c.args.dom.now.view c.index_of-index.result c.args.at c.args.block c.args.field g.source c.index_of-index.ensures c.requires.1.1

pub raw_load-requires-clause-closes : goal.raw_load-requires-clause-closes
raw_load-requires-clause-closes g c = λ found. read_closes c.args.heap.now.config c.args.dom.now.view found c.args.block c.args.field
