use Rattle.std.proofs.Common.{ap}
use Rattle.heap_rule.specs.declared.view.DomainView.{DomainView}
use Rattle.step_promote.specs.Promotion.{RewriteTold}
use Rattle.step_promote.proofs.Rewriting.{rewrite_may}
use Rattle.heap_rule.proofs.Closes.{front_same, leaves_closes}
use Rattle.step_promote.proofs.promoting.remembered_store.Goals as goal

pub raw_store-requires-clause-may : goal.raw_store-requires-clause-may
raw_store-requires-clause-may c = rewrite_may c.args.heap.now.config c.args.dom.now.view c.index_of-index.result c.args.at c.args.new c.index_of-index.ensures c.requires.may

pub raw_store-requires-clause-closes : goal.raw_store-requires-clause-closes
raw_store-requires-clause-closes c = leaves_closes c.args.heap.now.config c.args.dom.now.view c.args.new (RewriteTold c.args.at) (λ y told. ap (λ (z : DomainView). z.own) told.view) (λ y told. front_same c.args.dom.now.view y (ap (λ (z : DomainView). z.seen.front) told.view))
