use Rattle.step_marks.proofs.OfMarking.Plain.{own_closes}
use Rattle.step_marks.proofs.OfMarking.WalkSteps.{own_may}
use Rattle.step_marks.proofs.marking.walking.own_load.Goals as goal

pub raw_load-requires-clause-may : goal.raw_load-requires-clause-may
raw_load-requires-clause-may c = own_may c.args.heap.now.config c.args.dom.now.view c.args.at c.args.pool c.requires.may

pub raw_load-requires-clause-closes : goal.raw_load-requires-clause-closes
raw_load-requires-clause-closes c = λ found. own_closes c.args.heap.now.config c.args.dom.now.view found c.args.pool
