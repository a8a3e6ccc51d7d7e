use Rattle.gc_mark.proofs.OwnPools.{own_is, walk_is, walked_by}
use Rattle.gc_mark.proofs.rounds.visit_pool.Goals as goal

pub mark_pool-requires-clause-own : goal.mark_pool-requires-clause-own
mark_pool-requires-clause-own c = own_is c.args.pool c.own_load-word.result c.number.result c.args.dom.now.view c.own_load-word.new.dom.view c.number.ensures.value c.own_load-word.ensures.told c.in-Some.class c.in-Some.ensures

pub mark_pool-requires-clause-next : goal.mark_pool-requires-clause-next
mark_pool-requires-clause-next c = walk_is c.args.pool c.own_load-word.result c.number.result c.args.dom.now.view c.own_load-word.new.dom.view c.number.ensures.value c.own_load-word.ensures.told c.in-Some.class c.in-Some.ensures c.requires.next

pub returns-in_default-clause-walked : goal.returns-in_default-clause-walked
returns-in_default-clause-walked c = walked_by c.args.pool c.own_load-word.result c.number.result c.args.dom.now.view c.own_load-word.new.dom.view c.number.ensures.value c.own_load-word.ensures.told c.in_default.ensures
