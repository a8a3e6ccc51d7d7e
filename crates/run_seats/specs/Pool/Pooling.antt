-- The rule of a pool: what rests in it, and what each keeper knows.
use Rattle.std.specs.Prelude.{◌≡◌, ℕ, ◌+◌, ◌<◌, ◌≤◌, true, false, List, [], ◌∷◌, Option, Some, None}
use mathlib.Core.Option.{some}
use lib.ListN.{get_elem?}
use Rattle.run_seats.specs.declared.pool.rule.Knows.{Knows}
use Rattle.run_seats.specs.declared.pool.rule.Rested.{Rested}

module _ {T : Type 0} where
  -- the keeper with number 0, whose thing doesn't rest yet
  abbrev pub first_keeper : Knows T
  first_keeper = record { number = 0; stamp = 0; makes = true; next = 1; rests = None; turns = None }

  -- the keeper that one makes
  abbrev pub next_keeper : Knows T → Knows T
  next_keeper v = record { number = v.next; stamp = 0; makes = false; next = 0; rests = v.rests; turns = None }

  -- and the one that has made it
  abbrev pub one_more : Knows T → Knows T
  one_more v = record { number = v.number; stamp = v.stamp; makes = v.makes; next = v.next + 1; rests = v.rests; turns = v.turns }

  -- a keeper that has put its thing to rest
  abbrev pub putting : Knows T → Rested T → Knows T
  putting v x = record { number = v.number; stamp = x.stamp; makes = v.makes; next = v.next; rests = Some x.item; turns = None }

  -- one that has taken a thing out
  abbrev pub taking : Knows T → Rested T → Knows T
  taking v x = record { number = v.number; stamp = v.stamp; makes = v.makes; next = v.next; rests = v.rests; turns = Some x }

  -- and one that has put it back
  abbrev pub without : Knows T → Knows T
  without v = record { number = v.number; stamp = v.stamp; makes = v.makes; next = v.next; rests = v.rests; turns = None }

  -- a keeper that may have taken something out since
  abbrev pub holding : Knows T → Option (Rested T) → Knows T
  holding v o = record { number = v.number; stamp = v.stamp; makes = v.makes; next = v.next; rests = v.rests; turns = o }

-- whatever shares this with one thing shares it with the other
abbrev pub Akin : {S T : Type 0} → (S → T → Type 0) → T → T → Type 0
Akin {S} shares x y = (s : S) → shares s x → shares s y

-- what a keeper knows of a thing that rests, or that another has taken out: it shares what the keeper's own does; and if it is the keeper's own, and was put to rest as the last, it follows what was put
pub record Finds {S T : Type 0} (shares : S → T → Type 0) (follows : T → T → Type 0) (v : Knows T) (x : Rested T) : Type 0 where
  pub akin : (y : T) → v.rests ≡ Some y → Akin shares y x.item
  pub stamp : v.number ≡ x.number → x.stamp ≤ v.stamp
  pub last : v.number ≡ x.number → v.stamp ≡ x.stamp → (y : T) → v.rests ≡ Some y → follows y x.item
  pub below : v.makes ≡ true → x.number < v.next

-- each keeper knows this of it
abbrev pub AllFind : {S T : Type 0} → (S → T → Type 0) → (T → T → Type 0) → List (Knows T) → Rested T → Type 0
AllFind {S} {T} shares follows views x = (port : ℕ) (v : Knows T) → get_elem? views port ≡ some v → Finds shares follows v x

-- what two keepers know: their things share the same, their numbers tell them apart, and one at most makes others
pub record Meets {S T : Type 0} (shares : S → T → Type 0) (i j : ℕ) (v w : Knows T) : Type 0 where
  pub akin : (y z : T) → v.rests ≡ Some y → w.rests ≡ Some z → Akin shares y z
  pub apart : v.number ≡ w.number → i ≡ j
  pub below : v.makes ≡ true → w.number < v.next
  pub one : v.makes ≡ true → w.makes ≡ true → i ≡ j

-- what rests, and what was taken out, each keeper knows; and each two of them. Before the first thing was put to rest there is one keeper
pub record Pooled {S T : Type 0} (shares : S → T → Type 0) (follows : T → T → Type 0) (items : List (Rested T)) (views : List (Knows T)) : Type 0 where
  pub resting : (i : ℕ) (x : Rested T) → get_elem? items i ≡ some x → AllFind shares follows views x
  pub taken : (port : ℕ) (v : Knows T) → get_elem? views port ≡ some v → (x : Rested T) → v.turns ≡ Some x → AllFind shares follows views x
  pub meet : (i j : ℕ) (v w : Knows T) → get_elem? views i ≡ some v → get_elem? views j ≡ some w → Meets shares i j v w
  pub fresh : (port : ℕ) (v : Knows T) → get_elem? views port ≡ some v → v.rests ≡ None → (items ≡ []) × (views ≡ v ∷ []) × (v.turns ≡ None)
