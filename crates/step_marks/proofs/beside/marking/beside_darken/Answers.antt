use Rattle.step_marks.proofs.OfBeside.Plain.{darken_closes}
use Rattle.step_marks.proofs.OfBeside.DarkenSteps.{darken_may}
use Rattle.step_marks.proofs.beside.marking.beside_darken.Goals as goal

pub raw_exchange-requires-clause-may : goal.raw_exchange-requires-clause-may
raw_exchange-requires-clause-may g c = darken_may c.args.heap.now.config c.args.dom.now.view c.index_of-index.result c.args.at c.args.old c.args.new g.reason c.index_of-index.ensures c.requires.1.1

pub raw_exchange-requires-clause-closes : goal.raw_exchange-requires-clause-closes
raw_exchange-requires-clause-closes g c = λ found. darken_closes c.args.heap.now.config c.args.dom.now.view found c.args.at c.args.old g.reason
