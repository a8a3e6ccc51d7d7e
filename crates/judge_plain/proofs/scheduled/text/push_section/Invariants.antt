use Rattle.std.proofs.Common.{◌≡◌, ◌++◌, take}
use Rattle.model_core.specs.Output.{line, printed}
use Rattle.text_script.specs.Spelling.{heading_text}
use Rattle.judge_plain.proofs.scheduled.text.push_section.Given as goal

-- the lines so far
abbrev pub invariant-loop-reply : goal.invariant-loop-reply
invariant-loop-reply l = l.text.items ≡ l.fn.text.items ++ (line (heading_text l.domain) ++ printed (take l.reply-index l.own))
