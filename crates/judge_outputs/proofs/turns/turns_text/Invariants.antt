use Rattle.std.proofs.Common.{◌≡◌, ◌++◌, take, flat_map}
use Rattle.std.specs.Prelude.{codes}
use Rattle.model_core.specs.Output.{line}
use Rattle.text_script.specs.Schedule.Text.Spelling.{item_text}
use Rattle.judge_outputs.proofs.turns.turns_text.Given as goal

abbrev pub invariant-loop-item : goal.invariant-loop-item
invariant-loop-item l = l.text.items ≡ line (codes "schedule 1") ++ flat_map (λ i. line (item_text i)) (take l.item-index l.items)
