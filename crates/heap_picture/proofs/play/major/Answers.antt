use Rattle.std.proofs.Common.{[]}
use Rattle.heap_picture.proofs.PlaysLemmas.{plays_both, plays_then}
use Rattle.heap_picture.proofs.play.major.Goals as goal

pub returns-clause-plays : goal.returns-clause-plays
returns-clause-plays c =
    let done = plays_both c.args.heap.now c.collect.new.heap c.follow.new.heap [] [] c.in_ok-collect.ensures.plays c.in_ok-follow.ensures.plays in
    plays_then c.run_queued.result c.args.heap.now c.follow.new.heap c.run_queued.new.heap [] [] done c.run_queued.ensures.plays
