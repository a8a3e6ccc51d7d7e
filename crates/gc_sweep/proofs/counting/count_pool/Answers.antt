use Rattle.gc_sweep.proofs.OwnPools.{counts_in, counts_none}
use Rattle.gc_sweep.proofs.counting.count_pool.Goals as goal

pub returns-in_default-clause-counted : goal.returns-in_default-clause-counted
returns-in_default-clause-counted c = counts_none c.args.pool c.count_own_load-word.result c.number.result c.args.dom.now.view c.count_own_load-word.new.dom.view c.number.ensures.value c.count_own_load-word.ensures.told c.requires.next c.in_default.ensures

pub count_places-requires-clause-next : goal.count_places-requires-clause-next
count_places-requires-clause-next c = counts_in c.args.pool c.count_own_load-word.result c.number.result c.args.dom.now.view c.count_own_load-word.new.dom.view c.number.ensures.value c.count_own_load-word.ensures.told c.requires.next c.in-Some.class c.in-Some.ensures.0 c.in-Some.ensures.1
