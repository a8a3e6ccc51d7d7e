use Rattle.std.proofs.Common.{inl}
use Rattle.do_alloc.proofs.OfPools.Searching.{drew_drawn, hunted_takes, none_still, took_later, still_unreserved}
use Rattle.do_alloc.proofs.pools.draw.draw.Goals as goal

pub sign-requires-clause-drawn : goal.sign-requires-clause-drawn
sign-requires-clause-drawn c = drew_drawn c.args.heap.now.config c.in_ok-place.place c.args.class c.args.dom.now.view c.draw_pool.new.dom.view c.in_ok-place.ensures.drew

pub sign-requires-clause-none_free : goal.sign-requires-clause-none_free
sign-requires-clause-none_free c = none_still c.args.heap.now.config c.args.class c.args.dom.now.view c.draw_pool.new.dom.view c.in_ok-place.ensures.drew.looked c.requires.none_free

pub sign-requires-clause-takes : goal.sign-requires-clause-takes
sign-requires-clause-takes c = hunted_takes c.args.dom.now.view c.draw_pool.new.dom.view _ c.in_ok-place.ensures.drew.view (inl c.requires.runs)

pub returns-clause-took : goal.returns-clause-took
returns-clause-took c = took_later c.args.heap.now.config c.args.class c.sign.result c.args.dom.now.view c.draw_pool.new.dom.view c.sign.new.dom.view _ c.in_ok-place.ensures.drew.view c.sign.ensures.took

pub returns-clause-unreserved : goal.returns-clause-unreserved
returns-clause-unreserved c = still_unreserved c.args.heap.now.config c.args.dom.now.view c.draw_pool.new.dom.view c.sign.new.dom.view c.sign.ensures.free c.in_ok-place.ensures.drew.unreserved
