use Rattle.std.proofs.Common.{rules}
use Rattle.judge_plain.proofs.OfSpawned.TellLemmas.{tells_more}
use Rattle.judge_plain.proofs.spawned.play.play.Goals as goal

pub loop-entry-preserved : goal.loop-entry-preserved
loop-entry-preserved c =
    tells_more c.args.heap.now c.loop-entry.heap c.follow.new.heap c.args.d c.args.entries.now c.loop-entry.entry-index c.entry-item.result c.in-Some.applied c.loop-entry.steps.items c.add_step.new.steps.items
    c.loop-entry.ended c.has_ended-ended.result c.args.replies.now.items c.loop-entry.replies.items c.add_reply.new.replies.items c.loop-entry-test.true (search rules) c.loop-entry.invariant
    (rw c.in-Some.is at c.in_ok-applied.ensures.led) (c.in_ok-add_step.ensures c.loop-entry.heap (search rules) (rw c.in-Some.is at c.in_ok-applied.ensures.led).answers) c.has_ended-ended.ensures (search rules)
