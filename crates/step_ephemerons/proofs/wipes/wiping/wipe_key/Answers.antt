use Rattle.step_ephemerons.proofs.OfWipes.Plain.{key_closes}
use Rattle.step_ephemerons.proofs.OfWipes.WipeSteps.{key_may}
use Rattle.step_ephemerons.proofs.wipes.wiping.wipe_key.Goals as goal

pub raw_store-requires-clause-may : goal.raw_store-requires-clause-may
raw_store-requires-clause-may c = key_may c.args.heap.now.config c.args.dom.now.view c.index_of-key_index.result c.args.at c.index_of-key_index.ensures c.requires.may

pub raw_store-requires-clause-closes : goal.raw_store-requires-clause-closes
raw_store-requires-clause-closes c = key_closes c.args.heap.now.config c.args.dom.now.view
