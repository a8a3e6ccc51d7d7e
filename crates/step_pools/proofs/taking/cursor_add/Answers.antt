use Rattle.heap_rule.proofs.Closes.{leaves_closes}
use Rattle.step_pools.specs.Takes.{CursorAddTold}
use Rattle.step_pools.proofs.Plain.{cursor_add_own, cursor_add_front}
use Rattle.step_pools.proofs.TakeSteps.{cursor_add_may}
use Rattle.step_pools.proofs.taking.cursor_add.Goals as goal

pub raw_add-requires-clause-may : goal.raw_add-requires-clause-may
raw_add-requires-clause-may c = cursor_add_may c.args.heap.now.config c.args.dom.now.view c.requires.runs c.args.count c.args.class c.requires.asks c.requires.class c.requires.none_free

pub raw_add-requires-clause-closes : goal.raw_add-requires-clause-closes
raw_add-requires-clause-closes c = λ found. leaves_closes c.args.heap.now.config c.args.dom.now.view found (CursorAddTold c.args.heap.now.config c.args.count c.args.class) (cursor_add_own c.args.heap.now.config c.args.count c.args.class c.args.dom.now.view found) (cursor_add_front c.args.heap.now.config c.args.count c.args.class c.args.dom.now.view found)
