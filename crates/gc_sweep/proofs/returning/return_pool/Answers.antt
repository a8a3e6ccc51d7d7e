use Rattle.gc_sweep.proofs.OwnPools.{looks_behind, looks_in}
use Rattle.gc_sweep.proofs.returning.return_pool.Goals as goal

pub returns-in_default-clause-passed : goal.returns-in_default-clause-passed
returns-in_default-clause-passed c = looks_behind c.args.pool c.held_own_load-word.result c.number.result c.args.dom.now.view c.held_own_load-word.new.dom.view c.number.ensures.value c.args.heap.now.config c.held_own_load-word.ensures.told c.requires.next c.in_default.ensures

pub holds_block-requires-clause-next : goal.holds_block-requires-clause-next
holds_block-requires-clause-next c = looks_in c.args.pool c.held_own_load-word.result c.number.result c.args.dom.now.view c.held_own_load-word.new.dom.view c.number.ensures.value c.args.heap.now.config c.held_own_load-word.ensures.told c.requires.next c.in-Some.class c.in-Some.ensures.0 c.in-Some.ensures.1
