-- The text of a refusal.
use Rattle.std.specs.Prelude.{ℕ, List, [], ◌++◌, Option, Some, None}
use Rattle.judge_outputs.specs.declared.explain.Near.{Near}
use Rattle.judge_outputs.specs.Show.{near_text}

-- what is told behind a refusal
abbrev pub beside_text : Option Near → List ℕ
beside_text None = []
beside_text (Some near) = near_text near.line near.text.items

abbrev pub refused_text : List ℕ → Option Near → List ℕ
refused_text refusal near = refusal ++ beside_text near
