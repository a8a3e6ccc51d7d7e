-- What becomes of a domain's view while it marks blocks ("Retrofitting Parallelism onto OCaml", section 3.2).
use Rattle.std.specs.Prelude.{◌≡◌, ◌≢◌, ℕ, ◌+◌, ◌*◌, ◌<◌, ◌≤◌, ◌⊎◌, ◌==◌, Bool, true, false, IsTrue, cond, if◌then◌else◌, nat_le, Option, None, Some, List, [], slice_get}
use Rattle.std.specs.List.{list_any}
use Rattle.model_core.specs.Domains.{class_count}
use Rattle.heap_words.specs.declared.colours.Colours.{Colours}
use Rattle.heap_words.specs.declared.value.Value.TheVariants.{Ref}
use Rattle.heap_rule.specs.declared.config.Config.{Config}
use Rattle.heap_rule.specs.declared.phase.Kind.{Kind}
use Rattle.heap_rule.specs.declared.phase.Kind.TheVariants.{Mark, Queued, Roots, Rounds}
use Rattle.heap_rule.specs.declared.phase.Stage.{Stage}
use Rattle.heap_rule.specs.declared.phase.Stage.TheVariants.{In}
use Rattle.heap_rule.specs.declared.view.DomainView.{DomainView}
use Rattle.heap_rule.specs.declared.view.Held.TheVariants.{Queue}
use Rattle.heap_rule.specs.declared.view.Scan.{Scan}
use Rattle.heap_rule.specs.declared.view.Scan.TheVariants.{Holds, Idle, Reads}
use Rattle.heap_rule.specs.declared.view.Share.{Share}
use Rattle.heap_rule.specs.declared.view.Spot.{Spot}
use Rattle.heap_rule.specs.Changes.{value_at}
use Rattle.heap_rule.specs.Cycles.{seen_by}
use Rattle.heap_rule.specs.Finalisers.{held_at}
use Rattle.heap_rule.specs.Pools.{blocks_of, owned, owner_word}
use Rattle.step_marks.specs.Marking.Looks.{with_share}
use Rattle.step_marks.specs.Marking.Marking.{IsDarkening, Reason, Site, Warrants, account_on, moved_on, owes_on, places_seen_on, walk_on}
use Rattle.do_fields.specs.Darkening.Heads.{IsScanOf}
use Rattle.gc_mark.specs.Decks.{DeckCounts, NotesEach}

-- the domain is in a phase in which blocks are darkened, knows the colours, and has a reason to mark the block
pub record Darkens (colours : Colours) (at : ℕ) (reason : Reason) (x : DomainView) : Type 0 where
  pub kind : Kind
  pub stage : x.seen.stage ≡ In kind
  pub darkening : IsDarkening kind
  pub known : x.seen.share.colours ≡ Some colours
  pub reason_is : Warrants reason x at

-- whether a domain owes a store of the changed word, when it has come to a block that it was to mark, and has darkened it or not
abbrev pub owes_after : Stage → Bool → Bool → Bool
owes_after (In kind) won owes = cond won (owes_on kind owes) owes
owes_after _ won owes = owes

-- and what is on its account
abbrev pub account_after : Stage → Bool → ℕ → List ℕ → List ℕ
account_after (In kind) won at account = cond won (account_on kind at account) account
account_after _ won at account = account

-- the domain is done with the reason, and knows that the block is marked
abbrev pub darkened : Reason → ℕ → Bool → DomainView → DomainView
darkened reason at won x = with_share x (record (moved_on reason at x.seen.share) { owes = owes_after x.seen.stage won x.seen.share.owes; account = account_after x.seen.stage won at x.seen.share.account; darkenings = x.seen.share.darkenings + cond won 1 0 })

-- a register is among those whose blocks are marked
abbrev pub IsRoot : DomainView → ℕ → Type 0
IsRoot x r = IsTrue (list_any (λ q. q == r) x.seen.share.roots)

-- and a place of the queue is among those
abbrev pub IsQueueRoot : DomainView → ℕ → Type 0
IsQueueRoot x i = IsTrue (seen_by x.seen.share.waiting i)

-- each block that a domain has darkened was noted, and no more
abbrev pub NotesDarkenings : DomainView → DomainView → DeckCounts → DeckCounts → Type 0
NotesDarkenings x y l m = NotesEach x.seen.share.darkenings y.seen.share.darkenings l m

-- roots are marked in a phase
abbrev pub MarksRoots : Stage → Type 0
MarksRoots stage = (stage ≡ In Roots) ⊎ (stage ≡ In Queued)

-- the domain with what it knows of the colours, of the head that it found last, of its roots, and of the blocks that are marked as another has it
abbrev pub with_roots : DomainView → DomainView → DomainView
with_roots x y = with_share x (record x.seen.share { colours = y.seen.share.colours; found_head = y.seen.share.found_head; roots = y.seen.share.roots; waiting = y.seen.share.waiting; marked = y.seen.share.marked; darkenings = y.seen.share.darkenings })

-- and where it has gone to its queue alone
abbrev pub with_queue : DomainView → DomainView → DomainView
with_queue x y = with_share x (record x.seen.share { colours = y.seen.share.colours; found_head = y.seen.share.found_head; waiting = y.seen.share.waiting; marked = y.seen.share.marked; darkenings = y.seen.share.darkenings })

-- the domain where it owes a store of the changed word, or doesn't
abbrev pub owing : Bool → DomainView → DomainView
owing owes x = with_share x (record x.seen.share { owes = owes })

-- the domain is done with a register, and with those with which it was before
pub record Rooted (register : ℕ) (x y : DomainView) : Type 0 where
  pub view : y ≡ with_roots x y
  pub colours : y.seen.share.colours ≡ x.seen.share.colours
  pub done : (a : ℕ) → value_at x.own.registers register ≡ Ref a → IsRoot y register
  pub before : (r : ℕ) → IsRoot x r → IsRoot y r

-- the domain is done with a place of its queue, and with those with which it was before; and it has darkened a block, or not
pub record QueueRooted (place : ℕ) (won : Bool) (x y : DomainView) : Type 0 where
  pub view : y ≡ with_queue (owing (owes_after x.seen.stage won x.seen.share.owes) x) y
  pub colours : y.seen.share.colours ≡ x.seen.share.colours
  pub done : (a : ℕ) → held_at x.own.finalisers (Queue place) ≡ Some a → IsQueueRoot y place
  pub before : (i : ℕ) → IsQueueRoot x i → IsQueueRoot y i

-- it is done with each place of its queue that keeps a block alive, and nothing else has changed
pub record AllQueueRooted (x y : DomainView) : Type 0 where
  pub view : y ≡ with_queue x y
  pub queued : (i a : ℕ) → held_at y.own.finalisers (Queue i) ≡ Some a → IsQueueRoot y i

-- it is done with each register that holds a reference, and with each place of its queue that keeps a block alive, and nothing else has changed
pub record AllRooted (x y : DomainView) : Type 0 where
  pub view : y ≡ with_roots x y
  pub done : (r a : ℕ) → r < 16 → value_at y.own.registers r ≡ Ref a → IsRoot y r
  pub queued : (i a : ℕ) → held_at y.own.finalisers (Queue i) ≡ Some a → IsQueueRoot y i

-- how far a scan is: one field further, and at so many fields
abbrev pub field_on : Scan → Scan
field_on (Reads block done size head) = Reads block (done + 1) size head
field_on other = other

abbrev pub fields_to : ℕ → Scan → Scan
fields_to i (Reads block done size head) = Reads block i size head
fields_to i other = other

-- what a domain knows after fields were scanned, by what another knows: who has darkened a block owes a store of the changed word
abbrev pub scanning : Share → Share → Scan → Bool → Share
scanning s t scan won = record s { found_head = t.found_head; scan = scan; marked = t.marked; darkenings = t.darkenings; owes = cond won true s.owes; account = t.account }

-- a grey block's scan has begun: so many of its fields are to be scanned, and then its head is to be this word
pub record Begun (colours : Colours) (at fields new : ℕ) (x : DomainView) : Type 0 where
  pub word : ℕ
  pub scan : x.seen.share.scan ≡ Reads at 0 fields word
  pub grey : IsScanOf colours word fields new

-- it has ended, and who has darkened a block owes a store of the changed word
abbrev pub ScannedAt : Site → ℕ → Bool → DomainView → DomainView → Type 0
ScannedAt site at won x y = y ≡ with_share x (record (scanning x.seen.share y.seen.share Idle won) { places_seen = places_seen_on site at x.seen.share.places_seen; walk = walk_on site x.seen.share.walk })

-- the block that is scanned
abbrev pub block_in : Scan → Option ℕ
block_in (Reads block done size head) = Some block
block_in (Holds block done size head address) = Some block
block_in _ = None

-- The addresses of blocks of the pools that a domain is to follow. Each is known to be marked. In Mark each block on its account is among them, or is the one that is scanned, unless one of them may have been let go; and then it owes a store of the changed word
pub record Noted (k : Config) (x : DomainView) (items : List ℕ) (lost : Bool) : Type 0 where
  pub known : (i a : ℕ) → slice_get items i ≡ Some a → (1 ≤ a) × (a ≤ k.pools * 4096) × IsTrue (seen_by x.seen.share.marked a)
  pub kept : x.seen.stage ≡ In Mark → lost ≡ false → (a : ℕ) → IsTrue (seen_by x.seen.share.account a) → (block_in x.seen.share.scan ≡ Some a) ⊎ IsTrue (seen_by items a)
  pub owes : lost ≡ true → x.seen.share.owes ≡ true

-- blocks are scanned in a phase
abbrev pub ScansBlocks : Stage → Type 0
ScansBlocks stage = (stage ≡ In Mark) ⊎ (stage ≡ In Rounds)

-- a domain in such a phase knows the colours, and is at no block
pub record Scans (colours : Colours) (x : DomainView) : Type 0 where
  pub stage : ScansBlocks x.seen.stage
  pub known : x.seen.share.colours ≡ Some colours
  pub idle : x.seen.share.scan ≡ Idle

-- it has marked the block at an address itself, and so owes a store of the changed word
pub record MarkedItself (x : DomainView) (at : ℕ) : Type 0 where
  pub marked : IsTrue (seen_by x.seen.share.marked at)
  pub owes : x.seen.share.owes ≡ true

-- it has scanned blocks, wherever they lie. Where it has darkened one it owes a store of the changed word
abbrev pub Followed : Bool → DomainView → DomainView → Type 0
Followed won x y = y ≡ with_share x (scanning x.seen.share y.seen.share x.seen.share.scan won)

-- a domain in the phase in which it walks through its own pools knows the colours, and is at no block
pub record Marks (colours : Colours) (x : DomainView) : Type 0 where
  pub stage : x.seen.stage ≡ In Mark
  pub known : x.seen.share.colours ≡ Some colours
  pub idle : x.seen.share.scan ≡ Idle

-- and before it has begun the walk it knows of no place and no block
pub record StartsWalk (x : DomainView) : Type 0 where
  pub stage : x.seen.stage ≡ In Mark
  pub begins : x.seen.share.walk ≡ record { pool = 0; slot = 0 }
  pub idle : x.seen.share.scan ≡ Idle
  pub followed : x.seen.share.account ≡ []

-- where a walk through a pool is when it has been at so many of its places: at the next one, or in the next pool
abbrev pub spot_from : ℕ → ℕ → ℕ → Spot
spot_from pool class seen = if nat_le (blocks_of class) seen then record { pool = pool + 1; slot = 0 } else record { pool = pool; slot = seen }

-- the walk has come to a place
pub record Walked (walk : Spot) (x y : DomainView) : Type 0 where
  pub view : y ≡ with_share x (record x.seen.share { found_head = y.seen.share.found_head; marked = y.seen.share.marked; darkenings = y.seen.share.darkenings; owes = y.seen.share.owes; account = y.seen.share.account; places_seen = y.seen.share.places_seen; walk = walk; own_pool = y.seen.share.own_pool })

-- the domain with what it knows of the colours, of blocks and of its places, and what it owes for those that it has darkened, as another has it
abbrev pub with_marks : DomainView → DomainView → DomainView
with_marks x y = with_share x (record x.seen.share { colours = y.seen.share.colours; found_head = y.seen.share.found_head; marked = y.seen.share.marked; darkenings = y.seen.share.darkenings; owes = y.seen.share.owes; account = y.seen.share.account; places_seen = y.seen.share.places_seen; walk = y.seen.share.walk; own_pool = y.seen.share.own_pool })

-- the domain has been at each place of its own pools, and no block is left on its account. Nothing else has changed
pub record AllWalked (x y : DomainView) : Type 0 where
  pub view : y ≡ with_marks x y
  pub walked : y.seen.share.walk ≡ record { pool = x.own.swept.top; slot = 0 }
  pub followed : y.seen.share.account ≡ []

-- an owner's word names none of the domain's classes, or one of them
abbrev pub IsNotOf : ℕ → ℕ → Type 0
IsNotOf d word = (class : ℕ) → class < class_count → word ≢ owner_word (owned d class)

pub record IsOfClass (d word class : ℕ) : Type 0 where
  pub below : class < class_count
  pub is : word ≡ owner_word (owned d class)
