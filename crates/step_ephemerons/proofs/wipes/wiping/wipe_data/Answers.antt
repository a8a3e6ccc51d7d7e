use Rattle.step_ephemerons.proofs.OfWipes.Plain.{datum_closes}
use Rattle.step_ephemerons.proofs.OfWipes.WipeSteps.{datum_may}
use Rattle.step_ephemerons.proofs.wipes.wiping.wipe_data.Goals as goal

pub raw_store-requires-clause-may : goal.raw_store-requires-clause-may
raw_store-requires-clause-may c = datum_may c.args.heap.now.config c.args.dom.now.view c.index_of-datum_index.result c.args.at c.index_of-datum_index.ensures c.requires.may

pub raw_store-requires-clause-closes : goal.raw_store-requires-clause-closes
raw_store-requires-clause-closes c = datum_closes c.args.heap.now.config c.args.dom.now.view
