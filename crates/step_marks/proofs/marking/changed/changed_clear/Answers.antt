use Rattle.step_marks.proofs.OfMarking.ChangedSteps.{forget_may}
use Rattle.step_marks.proofs.OfMarking.Plain.{forget_closes}
use Rattle.step_marks.proofs.marking.changed.changed_clear.Goals as goal

pub raw_store-requires-clause-may : goal.raw_store-requires-clause-may
raw_store-requires-clause-may c = forget_may c.args.heap.now.config c.args.dom.now.view c.requires.may

pub raw_store-requires-clause-closes : goal.raw_store-requires-clause-closes
raw_store-requires-clause-closes c = forget_closes c.args.heap.now.config c.args.dom.now.view
