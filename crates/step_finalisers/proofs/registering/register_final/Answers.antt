use Rattle.step_finalisers.proofs.Plain.{final_closes}
use Rattle.step_finalisers.proofs.RegisterSteps.{final_may}
use Rattle.step_finalisers.proofs.registering.register_final.Goals as goal

pub raw_load-requires-clause-may : goal.raw_load-requires-clause-may
raw_load-requires-clause-may c = final_may c.args.heap.now.config c.args.dom.now.view 0 c.args.item c.args.registered c.requires.may

pub raw_load-requires-clause-closes : goal.raw_load-requires-clause-closes
raw_load-requires-clause-closes c = λ found. final_closes c.args.heap.now.config c.args.dom.now.view found c.args.item c.args.registered c.requires.may
