use Rattle.step_ephemerons.proofs.OfLooks.Plain.{key_look_closes}
use Rattle.step_ephemerons.proofs.OfLooks.RoundSteps.{key_look_may}
use Rattle.step_ephemerons.proofs.looks.rounding.key_look.Goals as goal

pub raw_load-requires-clause-may : goal.raw_load-requires-clause-may
raw_load-requires-clause-may c = key_look_may c.args.heap.now.config c.args.dom.now.view c.index_of-head_index.result c.args.at c.index_of-head_index.ensures c.requires.may

pub raw_load-requires-clause-closes : goal.raw_load-requires-clause-closes
raw_load-requires-clause-closes c = λ found. key_look_closes c.args.heap.now.config c.args.dom.now.view found
