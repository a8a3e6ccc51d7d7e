use Rattle.gc_pause.proofs.OfPhases.Works.{sweep_works, swept_returns}
use Rattle.gc_pause.proofs.phases.sharing.sweep_all.Goals as goal

pub return_pools-requires-clause-returns : goal.return_pools-requires-clause-returns
return_pools-requires-clause-returns c = swept_returns c.args.heap.now.config c.args.dom.now.view c.sweep_own.new.dom.view c.count_own.new.dom.view c.requires.stage c.sweep_own.ensures.swept c.count_own.ensures.counted

pub returns-clause-works : goal.returns-clause-works
returns-clause-works c = sweep_works c.args.heap.now.config c.args.dom.now.view c.sweep_own.new.dom.view c.count_own.new.dom.view c.return_pools.new.dom.view c.requires.stage c.sweep_own.ensures.swept c.count_own.ensures.counted c.return_pools.ensures.same c.return_pools.ensures.done
