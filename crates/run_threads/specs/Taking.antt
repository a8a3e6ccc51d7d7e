-- A trace taken out of a list, and one put back in its place.
use Rattle.std.specs.Prelude.{◌≡◌, ◌≢◌, ◌+◌, ◌<◌, ℕ, List, length, slice_index_or}

-- the item r was taken out at this place, into which the last one moved
pub record IsTakenOut {T : Type 0} (old new : List T) (place : ℕ) (r : T) : Type 0 where
  pub len : length new + 1 ≡ length old
  pub taken : (d : T) → slice_index_or old place d ≡ r
  pub last : (d : T) → place < length new → slice_index_or new place d ≡ slice_index_or old (length new) d
  pub others : (k : ℕ) (d : T) → k ≢ place → k < length new → slice_index_or new k d ≡ slice_index_or old k d

-- the item r was put in at this place, and the one that was there became the last
pub record IsPutBack {T : Type 0} (old new : List T) (place : ℕ) (r : T) : Type 0 where
  pub len : length new ≡ length old + 1
  pub here : (d : T) → slice_index_or new place d ≡ r
  pub last : (d : T) → place < length old → slice_index_or new (length old) d ≡ slice_index_or old place d
  pub others : (k : ℕ) (d : T) → k ≢ place → k < length old → slice_index_or new k d ≡ slice_index_or old k d
