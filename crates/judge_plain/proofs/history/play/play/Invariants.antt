use Rattle.std.proofs.Common.{take}
use Rattle.judge_plain.specs.History.Steps.{HasPlayed}
use Rattle.judge_plain.proofs.history.play.play.Given as goal

abbrev pub invariant-loop-entry : goal.invariant-loop-entry
invariant-loop-entry l = HasPlayed l.sizes (take l.entry-index l.history) l.heap l.told.items
