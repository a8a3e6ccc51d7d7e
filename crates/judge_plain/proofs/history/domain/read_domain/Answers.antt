use Rattle.std.proofs.Common.{rules}
use Rattle.judge_plain.proofs.OfHistory.PlayLemmas.{done_more}
use Rattle.judge_plain.proofs.OfHistory.ExactLemmas.{answer_there, makes_other}
use Rattle.judge_plain.proofs.history.domain.read_domain.Goals as goal

pub loop-i-preserved : goal.loop-i-preserved
loop-i-preserved c =
    done_more c.args._sizes.now c.args.d c.args.section.now c.args.history.now c.args.told.now c.loop-i.i c.index-history-i.result c.in-Some.applied
    c.loop-i.replies.items c.add_reply.new.replies.items c.loop-i.made c.in-Some-count_made.count c.loop-i.ended c.has_ended-ended.result
    c.loop-i-test.true (search rules) c.requires (search rules) c.loop-i.invariant (search rules) (search rules) (search rules) (search rules)

pub returns-in_default-clause-other : goal.returns-in_default-clause-other
returns-in_default-clause-other c = λ makes.
    answer_there c.args._sizes.now c.args.history.now c.args.told.now c.loop-i.i c.answer_at.result c.requires c.loop-i-test.true c.answer_at.ensures c.in_default.is

pub returns-in_default-count_made-clause-other : goal.returns-in_default-count_made-clause-other
returns-in_default-count_made-clause-other c = λ makes.
    makes_other c.args._sizes.now c.args.d c.args.section.now c.args.history.now c.loop-i.i c.index-history-i.result c.loop-i.replies.items c.loop-i.made c.loop-i.ended c.loop-i-test.true (search rules)
    c.loop-i.invariant c.in_default-count_made.ensures.other makes
