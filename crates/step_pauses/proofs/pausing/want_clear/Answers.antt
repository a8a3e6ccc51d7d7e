use Rattle.std.proofs.Common.{ap}
use Rattle.heap_rule.specs.declared.view.DomainView.{DomainView}
use Rattle.heap_rule.proofs.Closes.{front_same, leaves_closes}
use Rattle.step_pauses.specs.Pauses.{ClearTold}
use Rattle.step_pauses.proofs.PauseSteps.{clear_may}
use Rattle.step_pauses.proofs.pausing.want_clear.Goals as goal

pub raw_store-requires-clause-may : goal.raw_store-requires-clause-may
raw_store-requires-clause-may c = clear_may c.args.heap.now.config c.args.dom.now.view

pub raw_store-requires-clause-closes : goal.raw_store-requires-clause-closes
raw_store-requires-clause-closes c = leaves_closes c.args.heap.now.config c.args.dom.now.view 0 ClearTold (λ y told. ap (λ (z : DomainView). z.own) told) (λ y told. front_same c.args.dom.now.view y (ap (λ (z : DomainView). z.seen.front) told))
