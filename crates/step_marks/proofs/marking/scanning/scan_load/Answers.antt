use Rattle.step_marks.proofs.OfMarking.Plain.{scan_closes}
use Rattle.step_marks.proofs.OfMarking.ScanSteps.{scan_may}
use Rattle.step_marks.proofs.marking.scanning.scan_load.Goals as goal

pub raw_load-requires-clause-may : goal.raw_load-requires-clause-may
raw_load-requires-clause-may c = scan_may c.args.heap.now.config c.args.dom.now.view c.index_of-index.result c.args.at c.index_of-index.ensures c.requires.may

pub raw_load-requires-clause-closes : goal.raw_load-requires-clause-closes
raw_load-requires-clause-closes c = λ found. scan_closes c.args.heap.now.config c.args.dom.now.view found
