use Rattle.std.proofs.Common.{ap}
use Rattle.heap_rule.specs.declared.view.DomainView.{DomainView}
use Rattle.heap_rule.proofs.Closes.{leaves_closes}
use Rattle.step_pauses.specs.Pauses.{LeadTold}
use Rattle.heap_rule.specs.Phases.{kind_at}
use Rattle.step_pauses.proofs.PauseSteps.{lead_may}
use Rattle.step_pauses.proofs.pausing.plan_store.Goals as goal

pub raw_store-requires-clause-may : goal.raw_store-requires-clause-may
raw_store-requires-clause-may c = lead_may c.args.heap.now.config c.args.dom.now.view c.args.new (kind_at c.args.new) c.requires.may

pub raw_store-requires-clause-closes : goal.raw_store-requires-clause-closes
raw_store-requires-clause-closes c = leaves_closes c.args.heap.now.config c.args.dom.now.view c.args.new (LeadTold c.args.heap.now.config (kind_at c.args.new)) (λ y told. ap (λ (z : DomainView). z.own) told.view) (λ y told. told.seen)
