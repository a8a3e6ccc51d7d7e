use Rattle.std.proofs.Common.{ap}
use Rattle.heap_rule.specs.declared.view.DomainView.{DomainView}
use Rattle.heap_rule.proofs.Closes.{front_same, leaves_closes}
use Rattle.step_pools.specs.Takes.{CopyDrawTold}
use Rattle.step_pools.proofs.TakeSteps.{copy_draw_may}
use Rattle.step_pools.proofs.taking.copy_draw.Goals as goal

pub raw_add-requires-clause-may : goal.raw_add-requires-clause-may
raw_add-requires-clause-may c = copy_draw_may c.args.heap.now.config c.args.dom.now.view c.args.class c.requires.may

pub raw_add-requires-clause-closes : goal.raw_add-requires-clause-closes
raw_add-requires-clause-closes c = λ found. leaves_closes c.args.heap.now.config c.args.dom.now.view found (CopyDrawTold c.args.heap.now.config c.args.class) (λ y told. ap (λ (z : DomainView). z.own) told.view) (λ y told. front_same c.args.dom.now.view y (ap (λ (z : DomainView). z.seen.front) told.view))
