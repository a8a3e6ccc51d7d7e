use Rattle.std.proofs.Common.{arith}
use Rattle.model_core.specs.Output.{line}
use Rattle.table_text.specs.declared.machine.reply.LineReply.TheVariants.{Done}
use Rattle.table_text.specs.Machine.Texts.{line_reply_text}
use Rattle.text_ends.proofs.WritingLemmas.{front_is_written}
use Rattle.camlheap_run.proofs.WritingLemmas.{front_of_second, text_at}
use Rattle.camlheap_run.proofs.table.replies.write_answers.Goals as goal

pub returns-in_err-write_answer-clause-bytes : goal.returns-in_err-write_answer-clause-bytes
returns-in_err-write_answer-clause-bytes g c =
    let cut = text_at (λ r. line (line_reply_text r)) c.args.replies.now c.replies.reply-index Done (omega arith) in
    front_is_written _ _ _ _ c.from_residual.ensures.0 (front_of_second _ _ _ _ _ _ _ cut c.replies.invariant.bytes c.in_err-write_answer.ensures.bytes)
