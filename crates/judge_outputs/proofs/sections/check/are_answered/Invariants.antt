use Rattle.std.proofs.Common.{List, drop}
use Rattle.table_text.specs.Machine.Machine.{TableState}
use Rattle.judge_outputs.specs.Sections.Turns.{TurnsAnswered, TurnsRun}
use Rattle.judge_outputs.proofs.sections.check.are_answered.Given as goal

-- however the machine goes on from here, it gives all replies
abbrev pub invariant-loop-i : goal.invariant-loop-i
invariant-loop-i l = (states : List TableState) → TurnsRun l.machine (drop l.i l.turns) states → TurnsAnswered l.fn.domains l.turns
