-- The addresses of blocks that a domain is to follow.
use Rattle.std.specs.Prelude.{ℕ, ◌-◌, ◌/◌, Bool, false, List, [], ◌∷◌, ◌++◌, drop, length}

-- the addresses, the last one noted last, how many more fit, and whether one that was noted may have been let go since the start
pub record Trail : Type 0 where
  pub items : List ℕ
  pub room : ℕ
  pub lost : Bool

-- none is noted, and so many fit
abbrev pub empty_trail : ℕ → Trail
empty_trail room = record { items = []; room = room; lost = false }

-- the newer half of the addresses
abbrev pub newer : List ℕ → List ℕ
newer items = drop (length items - length items / 2) items

-- what is noted of a full trail and one more address: the older half is let go
abbrev pub renewed : List ℕ → ℕ → List ℕ
renewed [] address = []
renewed (x ∷ xs) address = newer (x ∷ xs) ++ address ∷ []
