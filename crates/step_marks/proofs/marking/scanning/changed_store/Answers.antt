use Rattle.step_marks.proofs.OfMarking.Plain.{changed_closes}
use Rattle.step_marks.proofs.OfMarking.ScanSteps.{changed_may}
use Rattle.step_marks.proofs.marking.scanning.changed_store.Goals as goal

pub raw_store-requires-clause-may : goal.raw_store-requires-clause-may
raw_store-requires-clause-may c = changed_may c.args.heap.now.config c.args.dom.now.view c.requires.may

pub raw_store-requires-clause-closes : goal.raw_store-requires-clause-closes
raw_store-requires-clause-closes c = changed_closes c.args.heap.now.config c.args.dom.now.view
