use Rattle.std.proofs.Common.{◌≡◌, ◌++◌, take, flat_map}
use Rattle.std.specs.Prelude.{codes}
use Rattle.model_core.specs.Output.{line}
use Rattle.judge_outputs.specs.Ordering.{turn_text}
use Rattle.judge_outputs.proofs.ordering.order.Given as goal

abbrev pub invariant-loop-turn : goal.invariant-loop-turn
invariant-loop-turn l = l.text.items ≡ line (codes "legal") ++ flat_map turn_text (take l.turn-index l.turns)
