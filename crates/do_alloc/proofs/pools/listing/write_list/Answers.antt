use Rattle.std.proofs.Common.{ℕ, sym, subst}
use Rattle.step_pools.specs.Listings.{CloseMay, ListedAsTold}
use Rattle.do_alloc.proofs.OfPools.ListWriting.{none_listed, close_ready, closed_list, closed_count}
use Rattle.do_alloc.proofs.pools.listing.write_list.Goals as goal

pub list_pools-count-requires-clause-empty : goal.list_pools-count-requires-clause-empty
list_pools-count-requires-clause-empty c = none_listed c.args.dom.now.view c.listed_clear.new.dom.view c.requires.leader c.listed_clear.ensures.told

pub listed_store-requires-clause-may : goal.listed_store-requires-clause-may
listed_store-requires-clause-may c = subst (CloseMay c.args.heap.now.config c.cursor_clear.new.dom.view) (sym c.from.ensures)
    (close_ready c.args.heap.now.config c.list_pools-count.new.dom.view c.list_pools-count.result c.list_pools-count.ensures.listed c.cursor_clear.new.dom.view c.cursor_clear.ensures.told)

pub returns-clause-list : goal.returns-clause-list
returns-clause-list c = closed_list c.args.heap.now.config c.list_pools-count.new.dom.view c.list_pools-count.result c.list_pools-count.ensures.listed c.cursor_clear.new.dom.view c.cursor_clear.ensures.told c.listed_store.new.dom.view
    (subst (λ (n : ℕ). ListedAsTold c.cursor_clear.new.dom.view n c.listed_store.new.dom.view) c.from.ensures c.listed_store.ensures.told)

pub returns-clause-count : goal.returns-clause-count
returns-clause-count c = closed_count c.args.heap.now.config c.list_pools-count.new.dom.view c.list_pools-count.result c.list_pools-count.ensures.listed c.cursor_clear.new.dom.view c.cursor_clear.ensures.told c.listed_store.new.dom.view
    (subst (λ (n : ℕ). ListedAsTold c.cursor_clear.new.dom.view n c.listed_store.new.dom.view) c.from.ensures c.listed_store.ensures.told)
