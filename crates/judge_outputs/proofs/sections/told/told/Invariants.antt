use Rattle.std.proofs.Common.{◌≡◌, ℕ, ◌+◌, ◌++◌}
use Rattle.judge_outputs.specs.Sections.Turns.{told_from}
use Rattle.judge_outputs.proofs.sections.told.told.Given as goal

-- what is written, and what the other domains tell, is all
abbrev pub invariant-loop-domain : goal.invariant-loop-domain
invariant-loop-domain l = (n : ℕ) → l.domain + n ≡ l.fn.domains → l.text.items ++ told_from l.domain n l.turns ≡ told_from 0 l.fn.domains l.turns
