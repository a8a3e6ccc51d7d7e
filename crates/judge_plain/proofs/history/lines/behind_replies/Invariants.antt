use Rattle.std.proofs.Common.{◌≡◌, ◌++◌, take}
use Rattle.model_core.specs.Output.{printed}
use Rattle.judge_plain.proofs.history.lines.behind_replies.Given as goal

abbrev pub invariant-loop-reply : goal.invariant-loop-reply
invariant-loop-reply l = l.bytes ≡ printed (take l.reply-index l.replies) ++ l.rest
