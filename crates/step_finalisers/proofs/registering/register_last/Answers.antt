use Rattle.step_finalisers.proofs.Plain.{last_closes}
use Rattle.step_finalisers.proofs.RegisterSteps.{last_may}
use Rattle.step_finalisers.proofs.registering.register_last.Goals as goal

pub raw_load-requires-clause-may : goal.raw_load-requires-clause-may
raw_load-requires-clause-may c = last_may c.args.heap.now.config c.args.dom.now.view 0 c.args.item c.args.registered c.requires.may

pub raw_load-requires-clause-closes : goal.raw_load-requires-clause-closes
raw_load-requires-clause-closes c = λ found. last_closes c.args.heap.now.config c.args.dom.now.view found c.args.item c.args.registered c.requires.may
