use Rattle.std.proofs.Common.{[]}
use Rattle.heap_picture.proofs.PlaysLemmas.{plays_both, plays_then}
use Rattle.heap_picture.proofs.collect.collect.Goals as goal

pub returns-clause-plays : goal.returns-clause-plays
returns-clause-plays c =
    let start = c.args.heap.now in
    let queued = plays_both start c.follow.new.heap c.queue_finals.new.heap [] [] c.in_ok-follow.ensures.plays c.in_ok-queue_finals.ensures.plays in
    let sealed = plays_both start c.queue_finals.new.heap c.follow-2.new.heap [] [] queued c.in_ok-follow-2.ensures.plays in
    let wiped = plays_both start c.follow-2.new.heap c.wipe_keys.new.heap [] [] sealed c.in_ok-wipe_keys.ensures.plays in
    let lasts = plays_both start c.wipe_keys.new.heap c.queue_lasts.new.heap [] [] wiped c.in_ok-queue_lasts.ensures.plays in
    plays_then c.follow-3.result start c.queue_lasts.new.heap c.follow-3.new.heap [] [] lasts c.follow-3.ensures.plays
