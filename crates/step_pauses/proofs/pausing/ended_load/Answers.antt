use Rattle.std.proofs.Common.{ap}
use Rattle.heap_rule.specs.declared.view.DomainView.{DomainView}
use Rattle.heap_rule.proofs.Closes.{front_same, leaves_closes}
use Rattle.step_pauses.specs.Pauses.{EndedTold}
use Rattle.step_pauses.proofs.PauseSteps.{ended_may}
use Rattle.step_pauses.proofs.pausing.ended_load.Goals as goal

pub raw_load-requires-clause-may : goal.raw_load-requires-clause-may
raw_load-requires-clause-may c = ended_may c.args.heap.now.config c.args.dom.now.view

pub raw_load-requires-clause-closes : goal.raw_load-requires-clause-closes
raw_load-requires-clause-closes c = λ found. leaves_closes c.args.heap.now.config c.args.dom.now.view found (EndedTold c.args.heap.now.config) (λ y told. ap (λ (z : DomainView). z.own) told.0) (λ y told. front_same c.args.dom.now.view y (ap (λ (z : DomainView). z.seen.front) told.0))
