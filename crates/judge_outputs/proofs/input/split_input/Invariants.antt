use Rattle.std.proofs.Common.{◌≢◌, ◌++◌, ◌∷◌, List, ℕ, ◌<◌, drop}
use Rattle.judge_outputs.specs.Input.{between}
use Rattle.judge_outputs.proofs.input.split_input.Given as goal

abbrev pub invariant-loop-at : goal.invariant-loop-at
invariant-loop-at l = (k : ℕ) → k < l.at → (more : List ℕ) → drop k l.bytes ≢ (10 ∷ between) ++ more
