use Rattle.heap_picture.proofs.PlaysLemmas.{plays_entry}
use Rattle.heap_picture.proofs.collect.follow.Goals as goal

pub returns-clause-plays : goal.returns-clause-plays
returns-clause-plays c = plays_entry c.args.heap.now c.apply.new.self c.args.entry.now c.in_ok-apply.ensures.allowed c.in_ok-apply.ensures.state
