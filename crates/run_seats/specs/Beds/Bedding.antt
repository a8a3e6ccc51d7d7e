-- The rule of a room with beds: what rests in it, and what each bed knows.
use Rattle.std.specs.Prelude.{◌≡◌, ◌==◌, ℕ, ◌+◌, ◌<◌, ◌≤◌, Bool, true, false, not, ◌||◌, List, Option, Some, None}
use mathlib.Core.Option.{some}
use lib.ListN.{get_elem?}
use Rattle.run_seats.specs.declared.beds.bed.NoBed.{NoBed}
use Rattle.run_seats.specs.declared.beds.bed.NoBed.TheVariants.{NotFirst, Full, Memory}
use Rattle.run_seats.specs.declared.beds.rule.Knows.{Knows}
use Rattle.run_seats.specs.declared.beds.rule.Rested.{Rested}

module _ {T : Type 0} where
  -- the bed with number 0, in which nothing was put yet
  abbrev pub first_bed : Knows T
  first_bed = record { number = 0; stamp = 0; makes = true; next = 1; rests = None; turns = None }

  -- the bed that one makes
  abbrev pub next_bed : Knows T → Knows T
  next_bed v = record { number = v.next; stamp = 0; makes = false; next = 0; rests = None; turns = None }

  -- and the one that has made it
  abbrev pub one_more : Knows T → Knows T
  one_more v = record { number = v.number; stamp = v.stamp; makes = v.makes; next = v.next + 1; rests = v.rests; turns = v.turns }

  -- a bed in which a thing was put
  abbrev pub putting : Knows T → Rested T → Knows T
  putting v x = record { number = v.number; stamp = x.stamp; makes = v.makes; next = v.next; rests = Some x.item; turns = None }

  -- one that has taken a thing out
  abbrev pub taking : Knows T → Rested T → Knows T
  taking v x = record { number = v.number; stamp = v.stamp; makes = v.makes; next = v.next; rests = v.rests; turns = Some x }

  -- and one that has put it back
  abbrev pub without : Knows T → Knows T
  without v = record { number = v.number; stamp = v.stamp; makes = v.makes; next = v.next; rests = v.rests; turns = None }

  -- a bed that may have taken something out since
  abbrev pub holding : Knows T → Option (Rested T) → Knows T
  holding v o = record { number = v.number; stamp = v.stamp; makes = v.makes; next = v.next; rests = v.rests; turns = o }

-- what a bed knows of a thing that rests, or that another has taken out: if it is the bed's own, and was put there last, it follows what was put
pub record Finds {T : Type 0} (follows : T → T → Type 0) (v : Knows T) (x : Rested T) : Type 0 where
  pub stamp : v.number ≡ x.number → x.stamp ≤ v.stamp
  pub last : v.number ≡ x.number → v.stamp ≡ x.stamp → (y : T) → v.rests ≡ Some y → follows y x.item
  pub below : v.makes ≡ true → x.number < v.next

-- each bed knows this of it
abbrev pub AllFind : {T : Type 0} → (T → T → Type 0) → List (Knows T) → Rested T → Type 0
AllFind {T} follows views x = (port : ℕ) (v : Knows T) → get_elem? views port ≡ some v → Finds follows v x

-- what two beds know: their numbers tell them apart, and one at most makes others
pub record Meets {T : Type 0} (i j : ℕ) (v w : Knows T) : Type 0 where
  pub apart : v.number ≡ w.number → i ≡ j
  pub below : v.makes ≡ true → w.number < v.next
  pub one : v.makes ≡ true → w.makes ≡ true → i ≡ j

-- what rests, and what was taken out, each bed knows; and each two of them
pub record Bedded {T : Type 0} (follows : T → T → Type 0) (items : List (Rested T)) (views : List (Knows T)) : Type 0 where
  pub resting : (i : ℕ) (x : Rested T) → get_elem? items i ≡ some x → AllFind follows views x
  pub taken : (port : ℕ) (v : Knows T) → get_elem? views port ≡ some v → (x : Rested T) → v.turns ≡ Some x → AllFind follows views x
  pub meet : (i j : ℕ) (v w : Knows T) → get_elem? views i ≡ some v → get_elem? views j ≡ some w → Meets i j v w

-- what was taken out follows what the bed knows that it has taken
pub record HasTaken {T : Type 0} (follows : T → T → Type 0) (v : Knows T) (x : Rested T) : Type 0 where
  pub old : Rested T
  pub turns : v.turns ≡ Some old
  pub number : x.number ≡ old.number
  pub stamp : x.stamp ≡ old.stamp
  pub follows_it : follows old.item x.item

-- a thing that a bed keeps until it can be put back was taken out by it
abbrev pub KeepsGuest : {T : Type 0} → (T → T → Type 0) → Knows T → Option (Rested T) → Type 0
KeepsGuest {T} follows v o = (x : Rested T) → o ≡ Some x → HasTaken follows v x

-- whether a thing is lost that a bed took out of the room: it was neither put back nor kept, and it isn't the bed's own, which was taken back
abbrev pub is_lost : {T : Type 0} → Bool → ℕ → Option (Rested T) → Option (Rested T) → Bool
is_lost is_taken number None guest = false
is_lost is_taken number (Some x) None = is_taken || not (x.number == number)
is_lost is_taken number (Some x) (Some y) = false

-- a bed: the thing that rests there, as it was put, whether it makes other beds, how many there are so far, whether it keeps a thing of another bed that it couldn't put back, and whether it has lost a thing that it took out of the room
pub record BedView (T : Type 0) : Type 0 where
  pub rests : Option T
  pub makes : Bool
  pub beds : ℕ
  pub keeps : Bool
  pub lost : Bool

-- a bed is as it was, but for whether it keeps a thing of another
abbrev pub IsSameBed : {T : Type 0} → BedView T → BedView T → Type 0
IsSameBed old new = new ≡ record old { keeps = new.keeps }

-- what rests in a bed of which it is known whether something does
abbrev pub lies_in : {T : Type 0} → Bool → Option T → Option T
lies_in true o = o
lies_in false o = None

-- a bed is one of a room, has lost nothing, and where something rests there it knows what
pub record IsBed {T : Type 0} (follows : T → T → Type 0) (v : Knows T) (number stamp next : ℕ) (is_taken makes : Bool) (guest : Option (Rested T)) : Type 0 where
  pub number_is : v.number ≡ number
  pub stamp_is : v.stamp ≡ stamp
  pub next_is : v.next ≡ next
  pub makes_is : v.makes ≡ makes
  pub keeps : KeepsGuest follows v guest
  pub loses : is_lost is_taken number v.turns guest ≡ false
  pub lies : is_taken ≡ true → (y : T) × (v.rests ≡ Some y)

-- why a bed makes no other: it isn't the first, it has made all that there may be, or memory ran out
abbrev pub MakesNone : {T : Type 0} → BedView T → NoBed → Type 0
MakesNone b NotFirst = b.makes ≡ false
MakesNone b Full = (b.makes ≡ true) × (64 ≤ b.beds)
MakesNone b Memory = (b.makes ≡ true) × (b.beds < 64)

-- a bed in which nothing rests, and that makes no others
abbrev pub plain_bed : {T : Type 0} → BedView T
plain_bed = record { rests = None; makes = false; beds = 0; keeps = false; lost = false }
