-- What a running domain has done in a slice of the marking ("Retrofitting Parallelism onto OCaml", section 4.3).
use Rattle.std.specs.Prelude.{◌≡◌, ℕ, ◌+◌, ◌<◌, ◌⊎◌, true, Some}
use Rattle.model_core.specs.Domains.{class_count}
use Rattle.model_core.specs.Fronts.{Shape}
use Rattle.heap_words.specs.declared.colours.Colours.{Colours}
use Rattle.heap_rule.specs.declared.config.Config.{Config}
use Rattle.heap_rule.specs.declared.phase.Kind.TheVariants.{Run}
use Rattle.heap_rule.specs.declared.phase.Stage.TheVariants.{In}
use Rattle.heap_rule.specs.declared.view.DomainView.{DomainView}
use Rattle.heap_rule.specs.declared.view.Known.TheVariants.{Vain}
use Rattle.heap_rule.specs.Beside.{IsKnown}
use Rattle.heap_rule.specs.Places.{IsHeadOf}
use Rattle.heap_rule.specs.Pools.{blocks_of, owned, owner_word, place_in}
use Rattle.step_marks.specs.Marking.Marking.{IsGrey, fields_in}
use Rattle.step_marks.specs.Beside.Marking.{Begins, FoundSince, Reason}
use Rattle.do_fields.specs.Darkening.Aware.{Learnt, darkened_in, scanned_in, vain_in}
use Rattle.gc_mark.specs.Decks.{DeckCounts, Rises, StaysDeck}

-- a running domain, which knows the colours and that a cycle goes on
pub record Slices (colours : Colours) (x : DomainView) : Type 0 where
  pub runs : x.seen.stage ≡ In Run
  pub armed : x.seen.share.armed ≡ Some true
  pub known : x.seen.share.colours ≡ Some colours

-- a slice teaches a running domain more, and what it owes, and that a cycle goes on, stays
pub record LearntBeside (x y : DomainView) : Type 0 where
  pub learnt : Learnt x y
  pub owes : y.seen.share.weak ≡ x.seen.share.weak
  pub armed : y.seen.share.armed ≡ x.seen.share.armed

-- the owner word names nobody, or a domain's class
abbrev pub IsOwner : ℕ → Type 0
IsOwner word = (word ≡ 0) ⊎ ((d : ℕ) × (class : ℕ) × (class < class_count) × (word ≡ owner_word (owned d class)))

-- no block begins at the address, in a pool with this owner word
abbrev pub BeginsNowhere : ℕ → ℕ → ℕ → Type 0
BeginsNowhere word at pool = (d class : ℕ) → class < class_count → word ≡ owner_word (owned d class) → Begins at pool class → ⊥

-- a block of this class begins there, at the slot-th place of the pool
pub record BeginsHere (word at pool class slot : ℕ) : Type 0 where
  pub owner : ℕ
  pub below : class < class_count
  pub is : word ≡ owner_word (owned owner class)
  pub inside : slot < blocks_of class
  pub begins : at ≡ place_in pool class slot

-- the domain has looked at an address, and has found there no grey block
pub record FoundNone (colours : Colours) (at : ℕ) (x : DomainView) (word : ℕ) (y : DomainView) : Type 0 where
  pub none : IsGrey colours word → ⊥
  pub known : IsKnown y.seen.share.known (Vain at)
  pub vain : vain_in y.seen.share.known ≡ vain_in x.seen.share.known + 1

-- or it knows the head of the grey block that begins there
pub record FoundGrey (colours : Colours) (at : ℕ) (x : DomainView) (word : ℕ) (y : DomainView) : Type 0 where
  pub grey : IsGrey colours word
  pub known : FoundSince y.seen.share.known at word
  pub vain : vain_in y.seen.share.known ≡ vain_in x.seen.share.known

-- the domain has looked at the address of a hint
pub record LookedAtHint (colours : Colours) (at : ℕ) (x : DomainView) (word : ℕ) (y : DomainView) : Type 0 where
  pub learnt : Learnt x y
  pub colours_stay : y.seen.share.colours ≡ x.seen.share.colours
  pub armed : y.seen.share.armed ≡ x.seen.share.armed
  pub owes : y.seen.share.weak ≡ x.seen.share.weak
  pub scanned : scanned_in y.seen.share.known ≡ scanned_in x.seen.share.known
  pub darkened : darkened_in y.seen.share.known ≡ darkened_in x.seen.share.known
  pub told : FoundNone colours at x word y ⊎ FoundGrey colours at x word y

-- the head is that of a block with so many fields
pub record IsSized (head fields : ℕ) : Type 0 where
  pub shape : Shape
  pub is : IsHeadOf shape head
  pub count : fields ≡ fields_in shape

-- the head of the block that is scanned, and why the block is darkened to which its field refers
pub record Scanning : Type 0 where
  pub head : ℕ
  pub reason : Reason

-- the deck is the domain's, among those of all domains
pub record IsDeckOf (k : Config) (x : DomainView) (l : DeckCounts) : Type 0 where
  pub number : l.number ≡ x.own.number
  pub domains : l.domains ≡ k.domains

-- so many hints were taken, and none was noted
pub record Tries (takes : ℕ) (l m : DeckCounts) : Type 0 where
  pub deck : StaysDeck l m
  pub taken : Rises takes l.taken m.taken
  pub pushes : m.pushes ≡ l.pushes

-- the domain has scanned so many blocks, and has looked at so many hints in vain; it has taken so many; and it has noted each block that it has darkened
pub record Went (scans vains takes : ℕ) (x y : DomainView) (l m : DeckCounts) : Type 0 where
  pub learnt : Learnt x y
  pub colours : y.seen.share.colours ≡ x.seen.share.colours
  pub armed : y.seen.share.armed ≡ x.seen.share.armed
  pub owes : y.seen.share.weak ≡ x.seen.share.weak
  pub scanned : scanned_in y.seen.share.known ≡ scanned_in x.seen.share.known + scans
  pub vain : vain_in y.seen.share.known ≡ vain_in x.seen.share.known + vains
  pub darkens : ℕ
  pub darkened : darkened_in y.seen.share.known ≡ darkened_in x.seen.share.known + darkens
  pub pushes : Rises darkens l.pushes m.pushes
  pub taken : Rises takes l.taken m.taken
  pub deck : StaysDeck l m
