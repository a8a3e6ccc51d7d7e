use Rattle.step_marks.proofs.OfBeside.Plain.{scanned_closes}
use Rattle.step_marks.proofs.OfBeside.DarkenSteps.{scanned_may}
use Rattle.step_marks.proofs.beside.scanning.beside_scanned_store.Goals as goal

pub raw_store-requires-clause-may : goal.raw_store-requires-clause-may
raw_store-requires-clause-may c = scanned_may c.args.heap.now.config c.args.dom.now.view c.index_of-index.result c.args.at c.args.new c.index_of-index.ensures c.requires.may

pub raw_store-requires-clause-closes : goal.raw_store-requires-clause-closes
raw_store-requires-clause-closes c = scanned_closes c.args.heap.now.config c.args.dom.now.view c.args.new c.args.at
