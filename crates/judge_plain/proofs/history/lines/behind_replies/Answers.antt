use Rattle.std.proofs.Common.{rules}
use Rattle.judge_plain.proofs.OfHistory.ExactLemmas.{none_holds, not_printed}
use Rattle.judge_plain.proofs.history.lines.behind_replies.Goals as goal

pub returns-in_err-rest-clause-none : goal.returns-in_err-rest-clause-none
returns-in_err-rest-clause-none c =
    none_holds _ c.from_residual.result (not_printed c.args.bytes.now c.loop-reply.rest.now c.args.replies.now c.loop-reply.reply-index _ c.loop-reply-test.true (search rules) c.loop-reply.invariant c.in_err-rest.ensures.none)
