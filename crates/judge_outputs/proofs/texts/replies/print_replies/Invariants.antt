use Rattle.std.proofs.Common.{◌≡◌, take}
use Rattle.table_text.specs.Machine.Texts.{replies_text}
use Rattle.judge_outputs.proofs.texts.replies.print_replies.Given as goal

abbrev pub invariant-loop-reply : goal.invariant-loop-reply
invariant-loop-reply l = l.text.items ≡ replies_text (take l.reply-index l.replies)
