use Rattle.step_marks.proofs.OfMarking.Plain.{scanned_closes}
use Rattle.step_marks.proofs.OfMarking.ScanSteps.{scanned_may}
use Rattle.step_marks.proofs.marking.scanning.scanned_store.Goals as goal

pub raw_store-requires-clause-may : goal.raw_store-requires-clause-may
raw_store-requires-clause-may g c = scanned_may c.args.heap.now.config c.args.dom.now.view c.index_of-index.result c.args.at c.args.new g.site c.index_of-index.ensures c.requires.1.1

pub raw_store-requires-clause-closes : goal.raw_store-requires-clause-closes
raw_store-requires-clause-closes g c = scanned_closes c.args.heap.now.config c.args.dom.now.view c.args.new c.args.at g.site
