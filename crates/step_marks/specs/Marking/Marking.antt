-- What the steps of marking ask and tell.
use Rattle.std.specs.Prelude.{◌≡◌, ◌≢◌, ℕ, ◌+◌, ◌<◌, ◌⊎◌, nat_le, if◌then◌else◌, ◌==◌, Bool, true, false, cond, IsTrue, List, [], ◌∷◌, Some, None}
use Rattle.model_core.specs.Domains.{class_count}
use Rattle.model_core.specs.Fronts.{Shape, PlainShape, RawShape, EpheShape}
use Rattle.heap_words.specs.declared.colours.Colours.{Colours}
use Rattle.heap_words.specs.declared.value.Value.{Value}
use Rattle.heap_words.specs.declared.value.Value.TheVariants.{Int, Ref, Nothing}
use Rattle.heap_words.specs.Values.{IsPackable, value_word}
use Rattle.heap_rule.specs.declared.config.Config.{Config}
use Rattle.heap_rule.specs.declared.phase.Kind.{Kind}
use Rattle.heap_rule.specs.declared.phase.Kind.TheVariants.{Roots, Mark, Rounds, Queued}
use Rattle.heap_rule.specs.declared.phase.Stage.TheVariants.{In}
use Rattle.heap_rule.specs.declared.view.DomainView.{DomainView}
use Rattle.heap_rule.specs.declared.view.Held.TheVariants.{Queue}
use Rattle.heap_rule.specs.declared.view.Scan.{Scan}
use Rattle.heap_rule.specs.declared.view.Scan.TheVariants.{Idle, Reads, Holds, Keys, Key, Datum}
use Rattle.heap_rule.specs.declared.view.Share.{Share}
use Rattle.heap_rule.specs.declared.view.Spot.{Spot}
use Rattle.heap_rule.specs.Cycles.{IsCollecting, seen_by}
use Rattle.heap_rule.specs.Finalisers.{held_at}
use Rattle.heap_rule.specs.Places.{HeadIs, IsHeadOf, needs_no_scan, IsOldAt}
use Rattle.heap_rule.specs.Pools.{blocks_of, owned, owner_word, place_in}
use Rattle.heap_rule.specs.Standing.{IsAt}
use Rattle.heap_rule.specs.Token.{IsAddress}
use Rattle.step_marks.specs.Marking.Looks.{with_share}

-- in phases of these kinds blocks are darkened
abbrev pub IsDarkening : Kind → Type 0
IsDarkening Roots = Unit {0}
IsDarkening Mark = Unit {0}
IsDarkening Rounds = Unit {0}
IsDarkening Queued = Unit {0}
IsDarkening _ = ⊥

-- in these kinds blocks are scanned
abbrev pub IsScanning : Kind → Type 0
IsScanning Mark = Unit {0}
IsScanning Rounds = Unit {0}
IsScanning _ = ⊥

-- and in these the changed word is stored
abbrev pub IsChanging : Kind → Type 0
IsChanging Mark = Unit {0}
IsChanging Rounds = Unit {0}
IsChanging Queued = Unit {0}
IsChanging _ = ⊥

-- the word is the head of an unmarked block, of a marked one, and of one that is scanned
pub record IsUnmarked (colours : Colours) (word : ℕ) : Type 0 where
  pub shape : Shape
  pub head : IsHeadOf shape word
  pub colour : head.colour ≡ colours.unmarked

pub record IsMarked (colours : Colours) (word : ℕ) : Type 0 where
  pub shape : Shape
  pub head : IsHeadOf shape word
  pub colour : head.colour ≡ colours.marked

pub record IsScanned (colours : Colours) (word : ℕ) : Type 0 where
  pub block : IsMarked colours word
  pub scanned : block.head.scanned ≡ true

-- and of one that is grey: it is marked and not scanned
pub record IsGrey (colours : Colours) (word : ℕ) : Type 0 where
  pub block : IsMarked colours word
  pub unscanned : block.head.scanned ≡ false

-- why a block is marked: a register refers to it, or the next field of the block that is scanned, or the datum of a marked ephemeron whose full keys are marked, or a place of the queue
pub data Reason : Type 0 where
  Register : ℕ → Reason
  Field : Reason
  OfDatum : Reason
  OfQueue : ℕ → Reason

abbrev pub Warrants : Reason → DomainView → ℕ → Type 0
Warrants (Register r) x at = IsAt x r at
Warrants Field x at = (block : ℕ) × (done : ℕ) × (size : ℕ) × (head : ℕ) × (x.seen.share.scan ≡ Holds block done size head at)
Warrants OfDatum x at = (block : ℕ) × (x.seen.stage ≡ In Rounds) × (x.seen.share.scan ≡ Datum block at)
Warrants (OfQueue i) x at = held_at x.own.finalisers (Queue i) ≡ Some at

-- once the block is marked the domain is done with the register, or with the field, or with the ephemeron, or with the place of the queue
abbrev pub roots_on : Reason → List ℕ → List ℕ
roots_on (Register r) roots = r ∷ roots
roots_on Field roots = roots
roots_on OfDatum roots = roots
roots_on (OfQueue i) roots = roots

abbrev pub waiting_on : Reason → List ℕ → List ℕ
waiting_on (Register r) waiting = waiting
waiting_on Field waiting = waiting
waiting_on OfDatum waiting = waiting
waiting_on (OfQueue i) waiting = i ∷ waiting

abbrev pub next_scan : Scan → Scan
next_scan (Holds block done size head address) = Reads block (done + 1) size head
next_scan other = other

abbrev pub scan_on : Reason → Scan → Scan
scan_on (Register r) scan = scan
scan_on Field scan = next_scan scan
scan_on OfDatum scan = Idle
scan_on (OfQueue i) scan = scan

-- the ephemeron whose keys a domain looks at is seen
abbrev pub seen_through : Scan → List ℕ → List ℕ
seen_through (Keys block done count) places_seen = block ∷ places_seen
seen_through (Key block done count address) places_seen = block ∷ places_seen
seen_through (Datum block address) places_seen = block ∷ places_seen
seen_through other places_seen = places_seen

abbrev pub seen_on : Reason → Scan → List ℕ → List ℕ
seen_on (Register r) scan places_seen = places_seen
seen_on Field scan places_seen = places_seen
seen_on OfDatum scan places_seen = seen_through scan places_seen
seen_on (OfQueue i) scan places_seen = places_seen

abbrev pub moved_on : Reason → ℕ → Share → Share
moved_on reason at share = record share { found_head = None; scan = scan_on reason share.scan; places_seen = seen_on reason share.scan share.places_seen; roots = roots_on reason share.roots; waiting = waiting_on reason share.waiting; marked = at ∷ share.marked }

-- a domain that does its share of a collection loads the head of a block that there is a reason to mark
pub record TargetMay (x : DomainView) (at : ℕ) (reason : Reason) : Type 0 where
  pub collects : IsCollecting x.seen.stage
  pub colours : Colours
  pub known : x.seen.share.colours ≡ Some colours
  pub reason_is : Warrants reason x at

-- the block is unmarked, and the domain has found this head; or it is marked, and the domain goes on
pub record TargetTold (at : ℕ) (reason : Reason) (x : DomainView) (found : ℕ) (y : DomainView) : Type 0 where
  pub colours : Colours
  pub known : x.seen.share.colours ≡ Some colours
  pub told : (IsUnmarked colours found × (y ≡ with_share x (record x.seen.share { found_head = Some (record { address = at; word = found }) })))
      ⊎ (IsMarked colours found × (y ≡ with_share x (moved_on reason at x.seen.share)))

-- the head of the unmarked block that the domain found last is exchanged for one that is marked, and scanned where the block needs no scan
pub record DarkenMay (x : DomainView) (at old new : ℕ) (reason : Reason) : Type 0 where
  pub kind : Kind
  pub stage : x.seen.stage ≡ In kind
  pub darkening : IsDarkening kind
  pub colours : Colours
  pub known : x.seen.share.colours ≡ Some colours
  pub found : x.seen.share.found_head ≡ Some (record { address = at; word = old })
  pub unmarked : IsUnmarked colours old
  pub marks : HeadIs None unmarked.shape colours.marked (needs_no_scan unmarked.shape) new
  pub reason_is : Warrants reason x at

-- whoever darkens a block in Mark, in Rounds or in Queued owes a store of the changed word
abbrev pub owes_on : Kind → Bool → Bool
owes_on Mark owes = true
owes_on Rounds owes = true
owes_on Queued owes = true
owes_on _ owes = owes

-- in Mark the block is on its account until the domain knows that it is scanned
abbrev pub account_on : Kind → ℕ → List ℕ → List ℕ
account_on Mark at account = at ∷ account
account_on _ at account = account

-- an address is taken off an account
abbrev pub settled : ℕ → List ℕ → List ℕ
settled at [] = []
settled at (a ∷ account) = cond (a == at) (settled at account) (a ∷ settled at account)

-- a domain has darkened a block
abbrev pub darkening : Kind → Reason → ℕ → Share → Share
darkening kind reason at share = record (moved_on reason at share) { owes = owes_on kind share.owes; account = account_on kind at share.account; darkenings = share.darkenings + 1 }

-- where the head was the one that was found the block is darkened, and else somebody else has darkened it. It lies in a pool
pub record DarkenTold (k : Config) (old at : ℕ) (reason : Reason) (x : DomainView) (found : ℕ) (y : DomainView) : Type 0 where
  pub kind : Kind
  pub stage : x.seen.stage ≡ In kind
  pub lies : IsOldAt k at
  pub won : found ≡ old → y ≡ with_share x (darkening kind reason at x.seen.share)
  pub lost : found ≢ old → y ≡ with_share x (moved_on reason at x.seen.share)

-- a load of the owner of the next pool through which the domain walks
pub record OwnMay (k : Config) (x : DomainView) (at pool : ℕ) : Type 0 where
  pub collects : IsCollecting x.seen.stage
  pub inside : pool < k.pools
  pub word : at ≡ 11 + k.pools + pool
  pub next : x.seen.share.walk ≡ record { pool = pool; slot = 0 }

-- the pool is the domain's own, for blocks of a class, or the walk goes to the next one
pub record OwnTold (pool : ℕ) (x : DomainView) (found : ℕ) (y : DomainView) : Type 0 where
  pub told : ((class : ℕ) × (class < class_count) × (found ≡ owner_word (owned x.own.number class)) × (y ≡ with_share x (record x.seen.share { own_pool = Some (record { pool = pool; class = class }) })))
      ⊎ (((class : ℕ) → class < class_count → found ≢ owner_word (owned x.own.number class)) × (y ≡ with_share x (record x.seen.share { walk = record { pool = pool + 1; slot = 0 } })))

-- the place behind one, in the next pool behind the last
abbrev pub behind : ℕ → ℕ → ℕ → Spot
behind pool class slot = if nat_le (blocks_of class) (slot + 1) then record { pool = pool + 1; slot = 0 } else record { pool = pool; slot = slot + 1 }

-- the address is that of the next place of the walk, in an own pool
pub record IsNext (x : DomainView) (at pool class slot : ℕ) : Type 0 where
  pub own : x.seen.share.own_pool ≡ Some (record { pool = pool; class = class })
  pub inside : slot < blocks_of class
  pub begins : at ≡ place_in pool class slot
  pub next : x.seen.share.walk ≡ record { pool = pool; slot = slot }

-- in Mark, a load of the head at that place
pub record MarkMay (x : DomainView) (at pool class slot : ℕ) : Type 0 where
  pub stage : x.seen.stage ≡ In Mark
  pub place : IsNext x at pool class slot
  pub colours : Colours
  pub known : x.seen.share.colours ≡ Some colours

-- how many fields of a block a scan follows
abbrev pub fields_in : Shape → ℕ
fields_in (PlainShape size tag) = size
fields_in (RawShape size tag) = 0
fields_in (EpheShape keys) = 0

-- the scan of a block begins
abbrev pub begun : ℕ → Shape → ℕ → Share → Share
begun at shape head share = record share { scan = Reads at 0 (fields_in shape) head }

-- no block is grey there, and the domain has seen the place; or one is, and its scan begins
pub record MarkTold (at pool class slot : ℕ) (x : DomainView) (found : ℕ) (y : DomainView) : Type 0 where
  pub colours : Colours
  pub known : x.seen.share.colours ≡ Some colours
  pub told : (((found ≡ 0) ⊎ (IsUnmarked colours found ⊎ IsScanned colours found)) × (y ≡ with_share x (record x.seen.share { places_seen = at ∷ x.seen.share.places_seen; walk = behind pool class slot })))
      ⊎ ((grey : IsGrey colours found) × (y ≡ with_share x (begun at grey.block.shape found x.seen.share)))

-- in Mark and in Rounds, a load of the head of a block that is known to be marked
pub record GreyMay (x : DomainView) (at : ℕ) : Type 0 where
  pub kind : Kind
  pub stage : x.seen.stage ≡ In kind
  pub scanning : IsScanning kind
  pub marked : IsTrue (seen_by x.seen.share.marked at)
  pub colours : Colours
  pub known : x.seen.share.colours ≡ Some colours

-- it is scanned, and not on the domain's account any more, or its scan begins
pub record GreyTold (at : ℕ) (x : DomainView) (found : ℕ) (y : DomainView) : Type 0 where
  pub colours : Colours
  pub known : x.seen.share.colours ≡ Some colours
  pub told : (IsScanned colours found × (y ≡ with_share x (record x.seen.share { account = settled at x.seen.share.account }))) ⊎ ((grey : IsGrey colours found) × (y ≡ with_share x (begun at grey.block.shape found x.seen.share)))

-- in Mark and in Rounds, a load of the next field of the block that is scanned
pub record ScanMay (x : DomainView) (at : ℕ) : Type 0 where
  pub kind : Kind
  pub stage : x.seen.stage ≡ In kind
  pub scanning : IsScanning kind
  pub block : ℕ
  pub done : ℕ
  pub size : ℕ
  pub head : ℕ
  pub scan : x.seen.share.scan ≡ Reads block done size head
  pub more : done < size
  pub word : at ≡ block + 2 + done

-- it refers to a block, or the field is done
abbrev pub scanned_on : Scan → Value → Scan
scanned_on (Reads block done size head) (Ref address) = Holds block done size head address
scanned_on (Reads block done size head) (Int z) = Reads block (done + 1) size head
scanned_on (Reads block done size head) Nothing = Reads block (done + 1) size head
scanned_on other value = other

pub record ScanTold (k : Config) (x : DomainView) (found : ℕ) (y : DomainView) : Type 0 where
  pub value : Value
  pub packable : IsPackable value
  pub word : found ≡ value_word value
  pub inside : (a : ℕ) → value ≡ Ref a → IsAddress k a
  pub view : y ≡ with_share x (record x.seen.share { scan = scanned_on x.seen.share.scan value })

-- where a block lies that was scanned: anywhere, or at the next place of the walk, which goes on then
pub data Site : Type 0 where
  Anywhere : Site
  Next : ℕ → ℕ → ℕ → Site

abbrev pub LiesAt : Site → DomainView → ℕ → Type 0
LiesAt Anywhere x at = Unit {0}
LiesAt (Next pool class slot) x at = IsNext x at pool class slot

abbrev pub places_seen_on : Site → ℕ → List ℕ → List ℕ
places_seen_on Anywhere at places_seen = places_seen
places_seen_on (Next pool class slot) at places_seen = at ∷ places_seen

abbrev pub walk_on : Site → Spot → Spot
walk_on Anywhere walk = walk
walk_on (Next pool class slot) walk = behind pool class slot

-- in Mark and in Rounds, the head of the block that is scanned gets the scanned mark, where all its fields are done. There is a walk in Mark alone
pub record ScannedMay (x : DomainView) (at new : ℕ) (site : Site) : Type 0 where
  pub kind : Kind
  pub stage : x.seen.stage ≡ In kind
  pub scanning : IsScanning kind
  pub anywhere : kind ≡ Rounds → site ≡ Anywhere
  pub size : ℕ
  pub word : ℕ
  pub scan : x.seen.share.scan ≡ Reads at size size word
  pub colours : Colours
  pub known : x.seen.share.colours ≡ Some colours
  pub shape : Shape
  pub head : IsHeadOf shape word
  pub marks : HeadIs None shape colours.marked true new
  pub lies : LiesAt site x at

-- the block isn't on the domain's account any more
abbrev pub ScannedTold : ℕ → Site → DomainView → ℕ → DomainView → Type 0
ScannedTold at site x found y = y ≡ with_share x (record x.seen.share { scan = Idle; account = settled at x.seen.share.account; places_seen = places_seen_on site at x.seen.share.places_seen; walk = walk_on site x.seen.share.walk })

-- in Mark, in Rounds and in Queued, 1 is stored in the changed word
pub record ChangedMay (x : DomainView) : Type 0 where
  pub kind : Kind
  pub stage : x.seen.stage ≡ In kind
  pub changing : IsChanging kind
  pub owes : x.seen.share.owes ≡ true

-- no block is on the domain's account any more
abbrev pub ChangedTold : DomainView → ℕ → DomainView → Type 0
ChangedTold x found y = y ≡ with_share x (record x.seen.share { owes = false; account = [] })
