use Rattle.table_text.specs.Machine.Machine.{MayGo}
use Rattle.judge_outputs.proofs.sections.goes.lose_unheld.Given as goal

abbrev pub invariant-loop-key : goal.invariant-loop-key
invariant-loop-key l = MayGo l.fn.machine l.machine
