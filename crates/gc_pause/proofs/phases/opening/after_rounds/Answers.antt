use Rattle.std.proofs.Common.{◌∙◌, sym}
use Rattle.gc_pause.proofs.OfPhases.Opens.{rounds_go_back, rounds_end_first, rounds_end_second}
use Rattle.gc_pause.proofs.phases.opening.after_rounds.Goals as goal

pub returns-then-changed_load-ne0-clause-opens : goal.returns-then-changed_load-ne0-clause-opens
returns-then-changed_load-ne0-clause-opens c who = rounds_go_back c.args.heap.now.config who c.args.dom.now.view c.changed_load.new.dom.view c.changed_load.result c.changed_load.ensures.told c.if-changed_load-ne0.true

pub returns-then-cut-clause-opens : goal.returns-then-cut-clause-opens
returns-then-cut-clause-opens c who = rounds_end_second c.args.heap.now.config who c.args.dom.now.view c.changed_load.new.dom.view c.changed_load.result c.changed_load.ensures.told c.if-changed_load-ne0.false (sym c.requires.cut ∙ c.if-cut.true)

pub returns-else-cut-clause-opens : goal.returns-else-cut-clause-opens
returns-else-cut-clause-opens c who = rounds_end_first c.args.heap.now.config who c.args.dom.now.view c.changed_load.new.dom.view c.changed_load.result c.changed_load.ensures.told c.if-changed_load-ne0.false (sym c.requires.cut ∙ c.if-cut.false)
