use Rattle.std.proofs.Common.{◌≡◌, ◌++◌, drop}
use Rattle.judge_outputs.specs.Sections.Turns.{lines_of}
use Rattle.judge_outputs.proofs.sections.told.lines_of.Given as goal

abbrev pub invariant-loop-turn : goal.invariant-loop-turn
invariant-loop-turn l = l.lines.items ++ lines_of l.fn.domain (drop l.turn-index l.turns) ≡ lines_of l.fn.domain l.turns
