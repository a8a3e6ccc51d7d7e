use Rattle.step_pauses.proofs.Plain.{arrived_closes}
use Rattle.step_pauses.proofs.PauseSteps.{arrive_may}
use Rattle.step_pauses.proofs.pausing.arrive.Goals as goal

pub raw_add-requires-clause-may : goal.raw_add-requires-clause-may
raw_add-requires-clause-may c = arrive_may c.args.heap.now.config c.args.dom.now.view c.requires.may

pub raw_add-requires-clause-closes : goal.raw_add-requires-clause-closes
raw_add-requires-clause-closes c = λ found. arrived_closes c.args.heap.now.config c.args.dom.now.view found c.requires.may
