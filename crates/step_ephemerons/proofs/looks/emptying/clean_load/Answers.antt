use Rattle.step_ephemerons.proofs.OfLooks.Plain.{clean_closes}
use Rattle.step_ephemerons.proofs.OfLooks.CleanSteps.{clean_may}
use Rattle.step_ephemerons.proofs.looks.emptying.clean_load.Goals as goal

pub raw_load-requires-clause-may : goal.raw_load-requires-clause-may
raw_load-requires-clause-may c = clean_may c.args.heap.now.config c.args.dom.now.view c.index_of-index.result c.args.at c.index_of-index.ensures c.requires.may

pub raw_load-requires-clause-closes : goal.raw_load-requires-clause-closes
raw_load-requires-clause-closes c = λ found. clean_closes c.args.heap.now.config c.args.dom.now.view found c.args.at
