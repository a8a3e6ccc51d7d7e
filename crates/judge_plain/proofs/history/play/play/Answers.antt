use Rattle.std.proofs.Common.{rules}
use Rattle.judge_plain.proofs.OfHistory.ExactLemmas.{not_legal}
use Rattle.judge_plain.proofs.OfHistory.PlayLemmas.{played_more}
use Rattle.judge_plain.proofs.history.play.play.Goals as goal

pub loop-entry-preserved : goal.loop-entry-preserved
loop-entry-preserved c =
    played_more c.args.sizes.now c.args.history.now c.loop-entry.entry-index c.entry-item.result c.loop-entry.heap c.follow.new.heap c.in-Some.applied c.loop-entry.told.items c.push.new.self.items
    c.loop-entry-test.true (search rules) c.loop-entry.invariant (rw c.in-Some.is at c.in_ok-applied.ensures.led) (search rules)

pub returns-in_default-clause-illegal : goal.returns-in_default-clause-illegal
returns-in_default-clause-illegal c =
    not_legal c.args.sizes.now c.args.history.now c.loop-entry.entry-index c.entry-item.result c.loop-entry.heap c.loop-entry.told.items c.requires c.loop-entry-test.true (search rules) c.loop-entry.invariant (rw c.in_default.is at c.in_ok-applied.ensures.refused)
