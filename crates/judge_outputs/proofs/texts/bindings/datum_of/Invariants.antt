use Rattle.std.proofs.Common.{◌≡◌, drop}
use Rattle.weak_laws.specs.Tables.Structures.{datum_at}
use Rattle.judge_outputs.proofs.texts.bindings.datum_of.Given as goal

abbrev pub invariant-loop-binding : goal.invariant-loop-binding
invariant-loop-binding l = datum_at (drop l.binding-index l.bindings) l.fn.key ≡ datum_at l.bindings l.fn.key
