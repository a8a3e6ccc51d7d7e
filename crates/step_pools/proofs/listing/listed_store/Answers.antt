use Rattle.std.proofs.Common.{ap}
use Rattle.heap_rule.specs.declared.view.DomainView.{DomainView}
use Rattle.heap_rule.proofs.Closes.{front_same, leaves_closes}
use Rattle.step_pools.specs.Listings.{ListedAsTold}
use Rattle.step_pools.proofs.ListSteps.{close_may}
use Rattle.step_pools.proofs.listing.listed_store.Goals as goal

pub raw_store-requires-clause-may : goal.raw_store-requires-clause-may
raw_store-requires-clause-may c = close_may c.args.heap.now.config c.args.dom.now.view c.args.new c.requires.may

pub raw_store-requires-clause-closes : goal.raw_store-requires-clause-closes
raw_store-requires-clause-closes c = leaves_closes c.args.heap.now.config c.args.dom.now.view c.args.new ListedAsTold (λ y told. ap (λ (z : DomainView). z.own) told) (λ y told. front_same c.args.dom.now.view y (ap (λ (z : DomainView). z.seen.front) told))
