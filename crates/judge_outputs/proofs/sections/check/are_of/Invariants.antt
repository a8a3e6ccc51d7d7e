use Rattle.std.proofs.Common.{◌≡◌, ℕ, ◌<◌, slice_get, Some}
use Rattle.judge_outputs.specs.declared.sections.turn.Turn.{Turn}
use Rattle.judge_outputs.proofs.sections.check.are_of.Given as goal

abbrev pub invariant-loop-turn : goal.invariant-loop-turn
invariant-loop-turn l = (i : ℕ) (t : Turn) → i < l.turn-index → slice_get l.turns i ≡ Some t → t.domain < l.fn.domains
