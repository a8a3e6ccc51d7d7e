use Rattle.std.proofs.Common.{take}
use Rattle.judge_plain.specs.Spawned.Told.{Tells}
use Rattle.judge_plain.proofs.spawned.play.play.Given as goal

abbrev pub invariant-loop-entry : goal.invariant-loop-entry
invariant-loop-entry l = Tells l.fn.heap l.heap l.d (take l.entry-index l.entries) l.steps.items l.ended l.fn.replies.items l.replies.items
