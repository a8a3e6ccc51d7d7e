use Rattle.std.proofs.Common.{◌≡◌, ◌++◌, take, flat_map}
use Rattle.std.specs.Prelude.{codes}
use Rattle.model_core.specs.Output.{line}
use Rattle.judge_outputs.specs.Tables.{gone_text}
use Rattle.judge_outputs.proofs.tables.run.Given as goal

abbrev pub invariant-loop-one : goal.invariant-loop-one
invariant-loop-one l = l.text.items ≡ line (codes "legal") ++ flat_map gone_text (take l.one-index l.gone)
