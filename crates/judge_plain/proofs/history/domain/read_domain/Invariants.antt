use Rattle.std.proofs.Common.{take}
use Rattle.judge_plain.specs.History.Steps.{HasDone}
use Rattle.judge_plain.proofs.history.domain.read_domain.Given as goal

abbrev pub invariant-loop-i : goal.invariant-loop-i
invariant-loop-i l = HasDone l._sizes l.d l.section (take l.i l.history) l.replies.items l.made l.ended
