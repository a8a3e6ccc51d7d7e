-- The input: a script, a line between, and an output.
use Rattle.std.specs.Prelude.{◌≡◌, ℕ, List, ◌++◌, codes}
use Rattle.model_core.specs.Output.{line}

-- the line that stands between a script and an output
abbrev pub between : List ℕ
between = line (codes "---")

-- what stands before that line, up to a line feed, and what stands behind it
pub record HasParts (bytes script output : List ℕ) : Type 0 where
  pub front : List ℕ
  pub is_line : script ≡ line front
  pub are : bytes ≡ script ++ (between ++ output)

-- there are no such parts
abbrev pub HasNoParts : List ℕ → Type 0
HasNoParts bytes = (front output : List ℕ) → bytes ≡ line front ++ (between ++ output) → ⊥
