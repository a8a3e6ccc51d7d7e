use Rattle.heap_rule.proofs.Closes.{leaves_closes}
use Rattle.step_pauses.specs.Pauses.{LookTold}
use Rattle.step_pauses.proofs.Plain.{look_own, look_front}
use Rattle.step_pauses.proofs.PauseSteps.{look_may}
use Rattle.step_pauses.proofs.pausing.look.Goals as goal

pub raw_load-requires-clause-may : goal.raw_load-requires-clause-may
raw_load-requires-clause-may c = look_may c.args.heap.now.config c.args.dom.now.view c.requires.gone

pub raw_load-requires-clause-closes : goal.raw_load-requires-clause-closes
raw_load-requires-clause-closes c = λ found. leaves_closes c.args.heap.now.config c.args.dom.now.view found (LookTold c.args.heap.now.config) (look_own c.args.heap.now.config c.args.dom.now.view found) (look_front c.args.heap.now.config c.args.dom.now.view found)
