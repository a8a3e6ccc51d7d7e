use Rattle.gc_pause.proofs.OfPhases.Opens.{queued_ends, queued_goes_on}
use Rattle.gc_pause.proofs.phases.opening.after_queued.Goals as goal

pub returns-then-changed_load-eq0-clause-opens : goal.returns-then-changed_load-eq0-clause-opens
returns-then-changed_load-eq0-clause-opens c who = queued_ends c.args.heap.now.config who c.args.dom.now.view c.changed_load.new.dom.view c.changed_load.result c.changed_load.ensures.told c.if-changed_load-eq0.true

pub returns-else-changed_load-eq0-clause-opens : goal.returns-else-changed_load-eq0-clause-opens
returns-else-changed_load-eq0-clause-opens c who = queued_goes_on c.args.heap.now.config who c.args.dom.now.view c.changed_load.new.dom.view c.changed_load.result c.changed_load.ensures.told c.if-changed_load-eq0.false
