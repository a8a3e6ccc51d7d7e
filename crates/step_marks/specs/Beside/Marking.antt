-- What the steps of marking beside running domains ask and tell.
use Rattle.std.specs.Prelude.{◌≡◌, ◌≢◌, ℕ, ◌+◌, ◌*◌, ◌<◌, ◌≤◌, ◌⊎◌, nat_le, if◌then◌else◌, true, false, List, [], ◌∷◌, Option, Some, None}
use Rattle.model_core.specs.Domains.{class_count}
use Rattle.model_core.specs.Fronts.{Shape}
use Rattle.heap_words.specs.declared.colours.Colours.{Colours}
use Rattle.heap_words.specs.declared.value.Value.{Value}
use Rattle.heap_words.specs.declared.value.Value.TheVariants.{Int, Ref, Nothing}
use Rattle.heap_words.specs.Values.{IsPackable, value_word}
use Rattle.heap_rule.specs.declared.config.Config.{Config}
use Rattle.heap_rule.specs.declared.phase.Kind.TheVariants.{Run}
use Rattle.heap_rule.specs.declared.phase.Stage.TheVariants.{In}
use Rattle.heap_rule.specs.declared.view.DomainView.{DomainView}
use Rattle.heap_rule.specs.declared.view.Known.{Known}
use Rattle.heap_rule.specs.declared.view.Known.TheVariants.{Pool, Marked, Found, Shape as Shaped, Refers, Done, Darkened, Scanned, Vain}
use Rattle.heap_rule.specs.Beside.{IsKnown, IsPaid}
use Rattle.heap_rule.specs.Places.{HeadIs, IsHeadOf, IsOldAt, needs_no_scan}
use Rattle.heap_rule.specs.Pools.{blocks_of, owned, owner_word, place_in}
use Rattle.heap_rule.specs.Standing.{FieldMay, IsAt}
use Rattle.heap_rule.specs.Token.{IsAddress}
use Rattle.step_marks.specs.Marking.Looks.{with_share}
use Rattle.step_marks.specs.Marking.Marking.{IsUnmarked, IsMarked, IsScanned, IsGrey, fields_in}

-- the domain runs beside a cycle, and knows it
pub record IsBeside (x : DomainView) : Type 0 where
  pub runs : x.seen.stage ≡ In Run
  pub armed : x.seen.share.armed ≡ Some true

-- and it knows the colours
pub record KnowsColours (x : DomainView) : Type 0 where
  pub beside : IsBeside x
  pub colours : Colours
  pub known : x.seen.share.colours ≡ Some colours

-- the domain knows one thing more
abbrev pub learning : DomainView → Known → DomainView
learning x fact = with_share x (record x.seen.share { known = fact ∷ x.seen.share.known })

-- the address lies in the pool, or behind all pools
abbrev pub LiesIn : Config → ℕ → ℕ → Type 0
LiesIn k at pool = ((pool * 4096 < at) × (at ≤ pool * 4096 + 4096)) ⊎ (k.pools * 4096 < at)

-- a load of the owner of the pool in which an address lies that may be a block's
pub record PoolMay (k : Config) (x : DomainView) (at word pool : ℕ) : Type 0 where
  pub beside : IsBeside x
  pub inside : pool < k.pools
  pub lies : LiesIn k at pool
  pub word_is : word ≡ 11 + k.pools + pool

-- a block of the class may begin at the address, in the pool
pub record Begins (at pool class : ℕ) : Type 0 where
  pub slot : ℕ
  pub inside : slot < blocks_of class
  pub begins : at ≡ place_in pool class slot

-- some domain has the pool, for blocks of a class, and one may begin at the address; or there is no block at the address, since nobody has the pool or its blocks begin elsewhere
pub record PoolTold (at pool : ℕ) (x : DomainView) (found : ℕ) (y : DomainView) : Type 0 where
  pub told : ((d : ℕ) × (class : ℕ) × (class < class_count) × (found ≡ owner_word (owned d class)) × Begins at pool class × (y ≡ learning x (Pool pool class)))
      ⊎ (((found ≡ 0) ⊎ ((d : ℕ) × (class : ℕ) × (class < class_count) × (found ≡ owner_word (owned d class)) × (Begins at pool class → ⊥))) × (y ≡ learning x (Vain at)))

-- a load of the head at a place of such a pool
pub record PlaceMay (x : DomainView) (at pool class slot : ℕ) : Type 0 where
  pub knows : KnowsColours x
  pub owned : IsKnown x.seen.share.known (Pool pool class)
  pub inside : slot < blocks_of class
  pub begins : at ≡ place_in pool class slot

-- no block is grey there; or one is, and it is known to be marked
pub record PlaceTold (at : ℕ) (x : DomainView) (found : ℕ) (y : DomainView) : Type 0 where
  pub colours : Colours
  pub known : x.seen.share.colours ≡ Some colours
  pub told : (((found ≡ 0) ⊎ (IsUnmarked colours found ⊎ IsScanned colours found)) × (y ≡ learning x (Vain at)))
      ⊎ (IsGrey colours found × (y ≡ learning x (Shaped at found)))

-- which field is read: one of a block that a register holds, or one of a block that is scanned
pub data Source : Type 0 where
  OfRegister : ℕ → Source
  OfScan : ℕ → Source

-- the head is that of a block with so many fields that this is one of them
pub record ShapeOf (head field : ℕ) : Type 0 where
  pub shape : Shape
  pub is : IsHeadOf shape head
  pub inside : field < fields_in shape

abbrev pub Reads : Config → DomainView → ℕ → ℕ → ℕ → Source → Type 0
Reads k x at block field (OfRegister register) = (may : FieldMay k x at register field) × (may.address ≡ block)
Reads k x at block field (OfScan head) = (at ≡ block + 2 + field) × IsKnown x.seen.share.known (Shaped block head) × ShapeOf head field

-- a load of a field that no entry stands at
pub record ReadMay (k : Config) (x : DomainView) (at block field : ℕ) (source : Source) : Type 0 where
  pub beside : IsBeside x
  pub reads : Reads k x at block field source

-- what the field referred to when the roots had been darkened is marked, or is the block of the pools that it refers to
abbrev pub read_as : Config → ℕ → ℕ → Value → Known
read_as k block field (Ref a) = if nat_le a (k.pools * 4096) then Refers block field a else Done block field
read_as k block field (Int z) = Done block field
read_as k block field Nothing = Done block field

pub record ReadTold (k : Config) (block field : ℕ) (x : DomainView) (found : ℕ) (y : DomainView) : Type 0 where
  pub value : Value
  pub packable : IsPackable value
  pub word : found ≡ value_word value
  pub inside : (a : ℕ) → value ≡ Ref a → IsAddress k a
  pub view : y ≡ learning x (read_as k block field value)

-- why a block is darkened: a field may have referred to it, a weak read has brought it into a register, or a register holds what a compare-and-set expects in a field
pub data Reason : Type 0 where
  Field : ℕ → ℕ → Reason
  Weak : ℕ → Reason
  Expected : ℕ → Reason

abbrev pub Warrants : DomainView → ℕ → Reason → Type 0
Warrants x at (Field block field) = IsKnown x.seen.share.known (Refers block field at)
Warrants x at (Weak register) = IsAt x register at × (x.seen.share.weak ≡ Some register)
Warrants x at (Expected register) = IsAt x register at

-- what the domain owes once the block is marked
abbrev pub weak_on : Reason → Option ℕ → Option ℕ
weak_on (Field block field) weak = weak
weak_on (Weak register) weak = None
weak_on (Expected register) weak = weak

-- the block is marked
abbrev pub marked_at : DomainView → ℕ → Reason → DomainView
marked_at x at reason = with_share x (record x.seen.share { known = Marked at ∷ x.seen.share.known; weak = weak_on reason x.seen.share.weak })

-- and the domain has darkened it
abbrev pub darkened_at : DomainView → ℕ → Reason → DomainView
darkened_at x at reason = with_share x (record x.seen.share { known = Darkened at ∷ Marked at ∷ x.seen.share.known; weak = weak_on reason x.seen.share.weak })

-- a load of the head of a block of the pools that is to be marked
pub record TargetMay (k : Config) (x : DomainView) (at : ℕ) (reason : Reason) : Type 0 where
  pub knows : KnowsColours x
  pub old : IsOldAt k at
  pub reason_is : Warrants x at reason

pub record TargetTold (at : ℕ) (reason : Reason) (x : DomainView) (found : ℕ) (y : DomainView) : Type 0 where
  pub colours : Colours
  pub known : x.seen.share.colours ≡ Some colours
  pub told : (IsUnmarked colours found × (y ≡ learning x (Found at found))) ⊎ (IsMarked colours found × (y ≡ marked_at x at reason))

-- the head of the unmarked block that was found is exchanged for one that is marked, and scanned where the block needs no scan
pub record DarkenMay (k : Config) (x : DomainView) (at old new : ℕ) (reason : Reason) : Type 0 where
  pub knows : KnowsColours x
  pub low : IsOldAt k at
  pub found : IsKnown x.seen.share.known (Found at old)
  pub unmarked : IsUnmarked knows.colours old
  pub marks : HeadIs None unmarked.shape knows.colours.marked (needs_no_scan unmarked.shape) new
  pub reason_is : Warrants x at reason

-- where the head was the one that was found the block is darkened, and else somebody else has darkened it
pub record DarkenTold (old at : ℕ) (reason : Reason) (x : DomainView) (found : ℕ) (y : DomainView) : Type 0 where
  pub won : found ≡ old → y ≡ darkened_at x at reason
  pub lost : found ≢ old → y ≡ marked_at x at reason

-- not that a block was scanned
abbrev pub IsNoScan : Known → Type 0
IsNoScan (Scanned at) = ⊥
IsNoScan _ = Unit {0}

-- the domain has found this head of a grey block, and has scanned none since
abbrev pub FoundSince : List Known → ℕ → ℕ → Type 0
FoundSince [] at head = ⊥
FoundSince (f ∷ fs) at head = (f ≡ Shaped at head) ⊎ (IsNoScan f × FoundSince fs at head)

-- what the domain has found it has still found so
abbrev pub StillFound : DomainView → DomainView → Type 0
StillFound x y = (at head : ℕ) → FoundSince x.seen.share.known at head → FoundSince y.seen.share.known at head

-- the head of a marked block gets the scanned mark, where what its fields referred to is marked
pub record ScannedMay (k : Config) (x : DomainView) (at new : ℕ) : Type 0 where
  pub knows : KnowsColours x
  pub low : IsOldAt k at
  pub head : ℕ
  pub shaped : IsKnown x.seen.share.known (Shaped at head)
  pub since : FoundSince x.seen.share.known at head
  pub shape : Shape
  pub is : IsHeadOf shape head
  pub fields : (i : ℕ) → i < fields_in shape → IsPaid x.seen.share.known at i
  pub marks : HeadIs None shape knows.colours.marked true new

abbrev pub ScannedTold : ℕ → DomainView → ℕ → DomainView → Type 0
ScannedTold at x found y = y ≡ learning x (Scanned at)
