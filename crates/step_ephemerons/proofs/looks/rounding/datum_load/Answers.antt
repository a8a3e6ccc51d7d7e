use Rattle.step_ephemerons.proofs.OfLooks.Plain.{datum_closes}
use Rattle.step_ephemerons.proofs.OfLooks.RoundSteps.{datum_may}
use Rattle.step_ephemerons.proofs.looks.rounding.datum_load.Goals as goal

pub raw_load-requires-clause-may : goal.raw_load-requires-clause-may
raw_load-requires-clause-may c = datum_may c.args.heap.now.config c.args.dom.now.view c.index_of-datum_index.result c.args.at c.index_of-datum_index.ensures c.requires.may

pub raw_load-requires-clause-closes : goal.raw_load-requires-clause-closes
raw_load-requires-clause-closes c = λ found. datum_closes c.args.heap.now.config c.args.dom.now.view found
