use Rattle.std.proofs.Common.{◌≡◌, ◌++◌, take, flat_map}
use Rattle.std.specs.Prelude.{codes}
use Rattle.model_core.specs.Output.{line}
use Rattle.judge_outputs.specs.Show.{entry_text}
use Rattle.judge_outputs.proofs.show.legal.Given as goal

abbrev pub invariant-loop-entry : goal.invariant-loop-entry
invariant-loop-entry l = l.text.items ≡ line (codes "legal") ++ flat_map entry_text (take l.entry-index l.history)
