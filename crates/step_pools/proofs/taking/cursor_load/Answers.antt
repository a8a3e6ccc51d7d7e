use Rattle.heap_rule.proofs.Closes.{leaves_closes}
use Rattle.step_pools.specs.Takes.{CursorTold}
use Rattle.step_pools.proofs.Plain.{cursor_own, cursor_front}
use Rattle.step_pools.proofs.TakeSteps.{cursor_may}
use Rattle.step_pools.proofs.taking.cursor_load.Goals as goal

pub raw_load-requires-clause-may : goal.raw_load-requires-clause-may
raw_load-requires-clause-may c = cursor_may c.args.heap.now.config c.args.dom.now.view c.requires.runs c.args.count c.requires.counts

pub raw_load-requires-clause-closes : goal.raw_load-requires-clause-closes
raw_load-requires-clause-closes c = λ found. leaves_closes c.args.heap.now.config c.args.dom.now.view found (CursorTold c.args.heap.now.config c.args.count) (cursor_own c.args.heap.now.config c.args.count c.args.dom.now.view found) (cursor_front c.args.heap.now.config c.args.count c.args.dom.now.view found)
