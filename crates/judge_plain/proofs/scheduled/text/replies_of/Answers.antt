use Rattle.std.proofs.Common.{rules}
use Rattle.judge_plain.proofs.OfScheduled.TextLemmas.{followed, replied}
use Rattle.judge_plain.proofs.scheduled.text.replies_of.Goals as goal

pub entries-preserved : goal.entries-preserved
entries-preserved c = record {
  state = followed c.args.sizes.now c.args.history.now c.entries.entry-index c.entry-item.result c.entries.heap c.follow.new.heap c.entries-test.true (search rules) c.entries.invariant.state (search rules);
  own = replied c.args.sizes.now c.args.history.now c.entries.entry-index c.entry-item.result c.args.domain c.entries.heap c.in_ok-applied.applied c.entries.own.items c.add_reply.new.replies.items
      c.entries-test.true (search rules) c.entries.invariant.state (search rules) c.entries.invariant.own (search rules);
}
