use Rattle.std.proofs.Common.{◌≡◌, drop}
use Rattle.judge_outputs.specs.Turns.{turns_from, turns_in}
use Rattle.judge_outputs.proofs.turns.gather_turns.Given as goal

abbrev pub invariant-loop-entry : goal.invariant-loop-entry
invariant-loop-entry l = turns_in l.history ≡ turns_from l.items.items l.phase (drop l.entry-index l.history)
