use Rattle.std.proofs.Common.{ap}
use Rattle.heap_rule.specs.declared.view.DomainView.{DomainView}
use Rattle.heap_rule.proofs.Closes.{front_same, leaves_closes}
use Rattle.step_run.specs.Queues.Looking.{QueueTold}
use Rattle.step_run.proofs.OfQueues.LookSteps.{queue_may}
use Rattle.step_run.proofs.queues.looking.queue_load.Goals as goal

pub raw_load-requires-clause-may : goal.raw_load-requires-clause-may
raw_load-requires-clause-may c = queue_may c.args.heap.now.config c.args.dom.now.view c.requires.runs

pub raw_load-requires-clause-closes : goal.raw_load-requires-clause-closes
raw_load-requires-clause-closes c = λ found. leaves_closes c.args.heap.now.config c.args.dom.now.view found (QueueTold c.args.heap.now.config) (λ y told. ap (λ (z : DomainView). z.own) told.view) (λ y told. front_same c.args.dom.now.view y (ap (λ (z : DomainView). z.seen.front) told.view))
