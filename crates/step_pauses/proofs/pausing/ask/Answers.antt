use Rattle.std.proofs.Common.{ap}
use Rattle.heap_rule.specs.declared.view.DomainView.{DomainView}
use Rattle.heap_rule.proofs.Closes.{front_same, leaves_closes}
use Rattle.step_pauses.specs.Pauses.{AskTold}
use Rattle.step_pauses.proofs.PauseSteps.{ask_may}
use Rattle.step_pauses.proofs.pausing.ask.Goals as goal

pub raw_or-requires-clause-may : goal.raw_or-requires-clause-may
raw_or-requires-clause-may c = ask_may c.args.heap.now.config c.args.dom.now.view c.args.bits c.requires.runs

pub raw_or-requires-clause-closes : goal.raw_or-requires-clause-closes
raw_or-requires-clause-closes c = λ found. leaves_closes c.args.heap.now.config c.args.dom.now.view found (AskTold c.args.bits) (λ y told. ap (λ (z : DomainView). z.own) told) (λ y told. front_same c.args.dom.now.view y (ap (λ (z : DomainView). z.seen.front) told))
