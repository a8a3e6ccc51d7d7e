use Rattle.do_alloc.proofs.OfPools.ListWriting.{passed, name_ready, listed_one}
use Rattle.std.proofs.Common.{◌+◌, ℕ, refl, subst}
use Rattle.step_pools.specs.Listings.{NamedTold}
use Rattle.do_alloc.proofs.pools.listing.list_pool.Goals as goal

pub returns-then-owner_look-ne0-clause-listed : goal.returns-then-owner_look-ne0-clause-listed
returns-then-owner_look-ne0-clause-listed c = passed c.args.heap.now.config c.args.dom.now.view c.args.pool c.args.count c.requires.listed c.owner_look.new.dom.view c.owner_look.result c.owner_look.ensures.told c.if-owner_look-ne0.true

pub list_store-requires-clause-may : goal.list_store-requires-clause-may
list_store-requires-clause-may c = name_ready c.args.heap.now.config c.args.dom.now.view c.args.pool c.args.count c.requires.listed c.owner_look.new.dom.view c.owner_look.result c.owner_look.ensures.told (11 + c.args.count) c.requires.inside c.requires.few refl

pub returns-clause-listed : goal.returns-clause-listed
returns-clause-listed c = listed_one c.args.heap.now.config c.args.dom.now.view c.args.pool c.args.count c.requires.listed c.owner_look.new.dom.view c.owner_look.result c.owner_look.ensures.told c.list_store.new.dom.view c.if-owner_look-ne0.false
    (subst (λ (n : ℕ). NamedTold c.owner_look.new.dom.view n c.list_store.new.dom.view) c.from.ensures c.list_store.ensures.told)
