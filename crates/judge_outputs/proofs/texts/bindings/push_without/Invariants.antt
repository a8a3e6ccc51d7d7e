use Rattle.std.proofs.Common.{◌≡◌, ◌++◌, drop}
use Rattle.weak_laws.specs.Tables.Structures.{without}
use Rattle.judge_outputs.proofs.texts.bindings.push_without.Given as goal

abbrev pub invariant-loop-binding : goal.invariant-loop-binding
invariant-loop-binding l = l.kept.items ++ without l.fn.key (drop l.binding-index l.bindings) ≡ l.fn.kept.items ++ without l.fn.key l.bindings
