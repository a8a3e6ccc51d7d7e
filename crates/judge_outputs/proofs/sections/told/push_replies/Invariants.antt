use Rattle.std.proofs.Common.{◌≡◌, ◌++◌, drop}
use Rattle.table_text.specs.Machine.Texts.{replies_text}
use Rattle.judge_outputs.specs.Sections.Turns.{replies_of}
use Rattle.judge_outputs.proofs.sections.told.push_replies.Given as goal

abbrev pub invariant-loop-turn : goal.invariant-loop-turn
invariant-loop-turn l = l.text.items ++ replies_text (replies_of l.fn.domain (drop l.turn-index l.turns)) ≡ l.fn.text.items ++ replies_text (replies_of l.fn.domain l.turns)
