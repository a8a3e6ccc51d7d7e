use Rattle.heap_rule.proofs.Closes.{leaves_closes}
use Rattle.step_pools.specs.Listings.{KeepLookTold}
use Rattle.step_pools.proofs.Plain.{keep_look_own, keep_look_front}
use Rattle.step_pools.proofs.ListSteps.{keep_look_may}
use Rattle.step_pools.proofs.listing.keep_look.Goals as goal

pub raw_load-requires-clause-may : goal.raw_load-requires-clause-may
raw_load-requires-clause-may c = keep_look_may c.args.heap.now.config c.args.dom.now.view c.args.count c.requires.counted

pub raw_load-requires-clause-closes : goal.raw_load-requires-clause-closes
raw_load-requires-clause-closes c = λ found. leaves_closes c.args.heap.now.config c.args.dom.now.view found (KeepLookTold c.args.heap.now.config c.args.count) (keep_look_own c.args.heap.now.config c.args.count c.args.dom.now.view found) (keep_look_front c.args.heap.now.config c.args.count c.args.dom.now.view found)
