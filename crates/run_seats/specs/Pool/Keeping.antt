-- What a clause says of a keeper.
use Rattle.std.specs.Prelude.{◌≡◌, ℕ, Bool, true, false, Option, Some}
use Rattle.atomic_table.specs.Seated.{TableId}
use Rattle.run_seats.specs.declared.pool.rule.Knows.{Knows}
use Rattle.run_seats.specs.declared.pool.rule.Rested.{Rested}

-- a keeper: the pool that it belongs to, its number, whether it makes the others and the number of the next, and its thing as it was put to rest last, by this keeper or by the one that made it
pub record KeeperView (T : Type 0) : Type 0 where
  pub pool : TableId
  pub number : ℕ
  pub makes : Bool
  pub next : ℕ
  pub rests : Option T

-- the first keeper of a pool, whose thing rests in it
abbrev pub first_keeper : {T : Type 0} → TableId → T → KeeperView T
first_keeper pool item = record { pool = pool; number = 0; makes = true; next = 1; rests = Some item }

-- one of those that it makes, which knows of the first one's thing
abbrev pub next_keeper : {T : Type 0} → TableId → ℕ → Option T → KeeperView T
next_keeper pool number rests = record { pool = pool; number = number; makes = false; next = 0; rests = rests }

-- its thing shares this
abbrev pub KeepsOf : {S T : Type 0} → (S → T → Type 0) → S → Option T → Type 0
KeepsOf {S} {T} shares shared o = (y : T) × (o ≡ Some y) × shares shared y

-- what was taken out follows what the keeper knows that it has taken
pub record HasTaken {S T : Type 0} (shares : S → T → Type 0) (follows : T → T → Type 0) (s : S) (v : Knows T) (x : Rested T) : Type 0 where
  pub old : Rested T
  pub turns : v.turns ≡ Some old
  pub number : x.number ≡ old.number
  pub stamp : x.stamp ≡ old.stamp
  pub follows_it : follows old.item x.item
  pub was : shares s old.item
  pub is : shares s x.item
