use Rattle.heap_rule.proofs.Closes.{leaves_closes}
use Rattle.step_pools.specs.Listings.{CursorLookTold}
use Rattle.step_pools.proofs.Plain.{cursor_look_own, cursor_look_front}
use Rattle.step_pools.proofs.ListSteps.{cursor_look_may}
use Rattle.step_pools.proofs.listing.cursor_look.Goals as goal

pub raw_load-requires-clause-may : goal.raw_load-requires-clause-may
raw_load-requires-clause-may c = cursor_look_may c.args.heap.now.config c.args.dom.now.view c.args.count c.requires.counted

pub raw_load-requires-clause-closes : goal.raw_load-requires-clause-closes
raw_load-requires-clause-closes c = λ found. leaves_closes c.args.heap.now.config c.args.dom.now.view found (CursorLookTold c.args.heap.now.config c.args.count) (cursor_look_own c.args.heap.now.config c.args.count c.args.dom.now.view found) (cursor_look_front c.args.heap.now.config c.args.count c.args.dom.now.view found)
