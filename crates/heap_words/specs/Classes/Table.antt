-- Tables of size classes ("Retrofitting Parallelism onto OCaml", section 3.1).
use Rattle.std.specs.Prelude.{◌<◌, ◌≤◌, ◌%◌, ℕ, Bool, true, ◌&&◌, nat_lt, nat_eq, List, [], ◌∷◌, length, slice_index}

-- rising sizes above `low`, each dividing the 4096 words of a pool
abbrev pub is_table_above : ℕ → List ℕ → Bool
is_table_above low [] = true
is_table_above low (x ∷ xs) = nat_lt low x && (nat_eq (4096 % x) 0 && is_table_above x xs)

-- a table of size classes
abbrev pub is_table : List ℕ → Bool
is_table xs = is_table_above 0 xs

-- no class has that many words
abbrev pub EachBelow : List ℕ → ℕ → Type 0
EachBelow sizes words = (k : ℕ) → k < length sizes → slice_index sizes k < words

-- the k-th class is the least of at least that many words
pub record IsLeastFor (sizes : List ℕ) (words k : ℕ) : Type 0 where
  pub inside : k < length sizes
  pub fits : words ≤ slice_index sizes k
  pub least : (j : ℕ) → j < k → slice_index sizes j < words
