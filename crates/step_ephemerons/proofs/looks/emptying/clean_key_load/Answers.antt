use Rattle.step_ephemerons.proofs.OfLooks.Plain.{clean_key_closes}
use Rattle.step_ephemerons.proofs.OfLooks.CleanSteps.{clean_key_may}
use Rattle.step_ephemerons.proofs.looks.emptying.clean_key_load.Goals as goal

pub raw_load-requires-clause-may : goal.raw_load-requires-clause-may
raw_load-requires-clause-may c = clean_key_may c.args.heap.now.config c.args.dom.now.view c.index_of-key_index.result c.args.at c.index_of-key_index.ensures c.requires.may

pub raw_load-requires-clause-closes : goal.raw_load-requires-clause-closes
raw_load-requires-clause-closes c = λ found. clean_key_closes c.args.heap.now.config c.args.dom.now.view found
