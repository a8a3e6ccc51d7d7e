-- What driving does to traces that share something.
use Rattle.std.specs.Prelude.{◌≡◌, ◌<◌, ℕ, List, length, slice_get, slice_index_or, Some}

-- the same traces, in the same order, each maybe further on
abbrev pub AllFollow : {T : Type 0} → (T → T → Type 0) → List T → List T → Type 0
AllFollow follows old new = (length new ≡ length old) × ((k : ℕ) (d : _) → k < length old → follows (slice_index_or old k d) (slice_index_or new k d))

-- this holds of each
abbrev pub AllAre : {T : Type 0} → (T → Type 0) → List T → Type 0
AllAre is traces = (k : ℕ) (d : _) → k < length traces → is (slice_index_or traces k d)

-- driven to their ends: each trace is at its place, is one of those that share this, follows the one that was there, and is over
pub record Driven {S T : Type 0} (shares : S → T → Type 0) (follows : T → T → Type 0) (is_over : T → Type 0) (shared : S) (old new : List T) : Type 0 where
  pub count : length new ≡ length old
  pub here : (i : ℕ) (q : T) → slice_get new i ≡ Some q → shares shared q
  pub further : (i : ℕ) (r q : T) → slice_get old i ≡ Some r → slice_get new i ≡ Some q → follows r q
  pub over : (i : ℕ) (q : T) → slice_get new i ≡ Some q → is_over q
