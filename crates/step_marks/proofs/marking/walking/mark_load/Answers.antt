use Rattle.step_marks.proofs.OfMarking.Plain.{mark_closes}
use Rattle.step_marks.proofs.OfMarking.WalkSteps.{mark_may}
use Rattle.step_marks.proofs.marking.walking.mark_load.Goals as goal

pub raw_load-requires-clause-may : goal.raw_load-requires-clause-may
raw_load-requires-clause-may c = mark_may c.args.heap.now.config c.args.dom.now.view c.index_of-index.result c.args.at c.args.pool c.args.class c.args.slot c.index_of-index.ensures c.requires.may

pub raw_load-requires-clause-closes : goal.raw_load-requires-clause-closes
raw_load-requires-clause-closes c = λ found. mark_closes c.args.heap.now.config c.args.dom.now.view found c.args.at c.args.pool c.args.class c.args.slot
