-- In which line two texts differ first.
use Rattle.std.specs.Prelude.{ℕ, ◌+◌, ◌==◌, List, [], ◌∷◌, cond, Option, Some, None}

-- the line of the first byte at which a text isn't the one that is expected, where the first line has this number
abbrev pub differs_from : ℕ → List ℕ → List ℕ → Option ℕ
differs_from line [] [] = None
differs_from line (x ∷ xs) (y ∷ ys) = cond (x == y) (differs_from (cond (x == 10) (line + 1) line) xs ys) (Some line)
differs_from line _ _ = Some line
