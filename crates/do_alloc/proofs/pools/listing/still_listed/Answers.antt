use Rattle.do_alloc.proofs.OfPools.ListWriting.{counted_ready}
use Rattle.do_alloc.proofs.pools.listing.still_listed.Goals as goal

pub listed_look-count-requires-clause-looker : goal.listed_look-count-requires-clause-looker
listed_look-count-requires-clause-looker c = record { kind = c.requires.leader.last; leads = record { first = c.requires.leader.first; stage = c.requires.leader.stage } }

pub keep_look-cursor-requires-clause-counted : goal.keep_look-cursor-requires-clause-counted
keep_look-cursor-requires-clause-counted c = (
  c.requires.leader.last,
  counted_ready c.args.heap.now.config c.requires.leader.last c.args.dom.now.view c.listed_look-count.new.dom.view c.listed_look-count.result (record { first = c.requires.leader.first; stage = c.requires.leader.stage }) c.listed_look-count.ensures.told,
)
