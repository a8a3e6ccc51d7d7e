use Rattle.std.proofs.Common.{◌∙◌, ◌+◌, ◌*◌, ℕ, refl, ap}
use Rattle.heap_rule.specs.declared.config.Config.{Config}
use Rattle.heap_rule.proofs.Classes.{some_block}
use Rattle.do_alloc.proofs.OfPools.Searching.{drawn_took, drawn_free, found_drawn, clear_takes, owner_ready}
use Rattle.do_alloc.proofs.pools.draw.sign.Goals as goal

pub list_load-pool-requires-clause-may : goal.list_load-pool-requires-clause-may
list_load-pool-requires-clause-may c = let d = c.requires.drawn in record { place = c.args.place; pool = d.pool; class = c.args.class; cleared = 0; hunt = d.hunt; word = refl; inside = d.listed_is }

pub place_address-requires-clause-slot : goal.place_address-requires-clause-slot
place_address-requires-clause-slot c = (some_block c.args.class c.requires.class).0

pub returns-clause-took : goal.returns-clause-took
returns-clause-took c = drawn_took c.args.heap.now.config c.args.dom.now.view c.list_load-pool.new.dom.view c.args.place c.args.class c.list_load-pool.result
    c.requires.drawn c.list_load-pool.ensures.told c.clear.new.dom.view c.clear.ensures.cleared c.owner_store.new.dom.view c.owner_word-new.result c.owner_store.ensures.told c.place_address.result c.requires.class c.place_address.ensures.value

pub returns-clause-free : goal.returns-clause-free
returns-clause-free c = drawn_free c.args.heap.now.config c.args.dom.now.view c.list_load-pool.new.dom.view c.args.place c.args.class c.list_load-pool.result
    c.requires.drawn c.list_load-pool.ensures.told c.clear.new.dom.view c.clear.ensures.cleared c.owner_store.new.dom.view c.owner_word-new.result c.owner_store.ensures.told

pub owner_store-requires-clause-takes : goal.owner_store-requires-clause-takes
owner_store-requires-clause-takes c = clear_takes c.args.heap.now.config c.args.dom.now.view c.list_load-pool.new.dom.view c.args.place c.args.class c.list_load-pool.result
    c.requires.drawn c.list_load-pool.ensures.told c.clear.new.dom.view c.clear.ensures.cleared c.requires.takes

pub owner_store-requires-clause-may : goal.owner_store-requires-clause-may
owner_store-requires-clause-may c = owner_ready c.args.heap.now.config c.args.dom.now.view c.list_load-pool.new.dom.view c.args.place c.args.class c.list_load-pool.result
    c.requires.drawn c.list_load-pool.ensures.told c.clear.new.dom.view c.clear.ensures.cleared _ _ c.requires.none_free (ap (λ (k : Config). 11 + k.pools + c.list_load-pool.result) c.config-pools.ensures.value)
    (c.owner_word-new.ensures ∙ ap (λ (n : ℕ). 16 * n + c.args.class + 1) c.number.ensures.value)

pub clear-requires-clause-drawn : goal.clear-requires-clause-drawn
clear-requires-clause-drawn c = found_drawn c.args.heap.now.config c.args.dom.now.view c.list_load-pool.new.dom.view c.args.place c.args.class c.list_load-pool.result c.requires.drawn c.list_load-pool.ensures.told
