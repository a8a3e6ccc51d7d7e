use Rattle.step_marks.proofs.OfMarking.ChangedSteps.{find_may}
use Rattle.step_marks.proofs.OfMarking.Plain.{find_closes}
use Rattle.step_marks.proofs.marking.changed.changed_load.Goals as goal

pub raw_load-requires-clause-may : goal.raw_load-requires-clause-may
raw_load-requires-clause-may c = find_may c.args.heap.now.config c.args.dom.now.view c.requires.may

pub raw_load-requires-clause-closes : goal.raw_load-requires-clause-closes
raw_load-requires-clause-closes c = λ found. find_closes c.args.heap.now.config c.args.dom.now.view found
