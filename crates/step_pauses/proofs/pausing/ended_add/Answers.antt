use Rattle.step_pauses.proofs.Plain.{end_closes}
use Rattle.step_pauses.proofs.EndSteps.{end_may}
use Rattle.step_pauses.proofs.pausing.ended_add.Goals as goal

pub raw_add-requires-clause-may : goal.raw_add-requires-clause-may
raw_add-requires-clause-may c = end_may c.args.heap.now.config c.args.dom.now.view c.requires.acts

pub raw_add-requires-clause-closes : goal.raw_add-requires-clause-closes
raw_add-requires-clause-closes c = λ found. end_closes c.args.heap.now.config c.args.dom.now.view found
