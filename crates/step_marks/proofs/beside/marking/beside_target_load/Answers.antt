use Rattle.step_marks.proofs.OfBeside.Plain.{target_closes}
use Rattle.step_marks.proofs.OfBeside.DarkenSteps.{target_may}
use Rattle.step_marks.proofs.beside.marking.beside_target_load.Goals as goal

pub raw_load-requires-clause-may : goal.raw_load-requires-clause-may
raw_load-requires-clause-may g c = target_may c.args.heap.now.config c.args.dom.now.view c.index_of-index.result c.args.at g.reason c.index_of-index.ensures c.requires.1.1

pub raw_load-requires-clause-closes : goal.raw_load-requires-clause-closes
raw_load-requires-clause-closes g c = λ found. target_closes c.args.heap.now.config c.args.dom.now.view found c.args.at g.reason
