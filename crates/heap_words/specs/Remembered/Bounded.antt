-- A list of items with room for more.
use Rattle.std.specs.Prelude.{ℕ, List}

-- the items, and how many more fit
pub record Bounded (T : Type 0) : Type 0 where
  pub items : List T
  pub room : ℕ
