use Rattle.std.proofs.Common.{ap}
use Rattle.heap_rule.specs.declared.view.DomainView.{DomainView}
use Rattle.step_promote.specs.Promotion.{Recalled}
use Rattle.step_promote.proofs.Meets.{recall_may}
use Rattle.heap_rule.proofs.Closes.{front_same, leaves_closes}
use Rattle.step_promote.proofs.promoting.remembered_load.Goals as goal

pub raw_load-requires-clause-may : goal.raw_load-requires-clause-may
raw_load-requires-clause-may c = recall_may c.args.heap.now.config c.args.dom.now.view c.index_of-index.result c.args.at c.index_of-index.ensures c.requires.may

pub raw_load-requires-clause-closes : goal.raw_load-requires-clause-closes
raw_load-requires-clause-closes c = λ found. leaves_closes c.args.heap.now.config c.args.dom.now.view found (Recalled c.args.heap.now.config c.args.at) (λ y told. ap (λ (z : DomainView). z.own) told.view) (λ y told. front_same c.args.dom.now.view y (ap (λ (z : DomainView). z.seen.front) told.view))
