-- A cache as the program that uses it sees it.
use Rattle.std.specs.Prelude.{◌≡◌, ◌≢◌, ◌⊎◌, ℕ, ◌+◌, ◌<◌, ◌≤◌, Bool, true, false, List, [], Option, Some, None}
use Rattle.model_core.specs.declared.command.Command.{Command}
use Rattle.model_core.specs.declared.command.Command.TheVariants.{Alloc, Forget, FullMajor}
use Rattle.model_core.specs.declared.label.Label.{Label}
use Rattle.model_core.specs.declared.entry.Entry.{Entry}
use Rattle.model_core.specs.declared.graph.Value.{Value}
use Rattle.model_core.specs.declared.graph.Value.TheVariants.{Block, Nothing}
use Rattle.model_core.specs.declared.reply.Reply.{Reply}
use Rattle.model_core.specs.declared.reply.Reply.TheVariants as reply
use Rattle.model_core.specs.declared.state.Sizes.{Sizes}
use Rattle.model_core.specs.Commands.{shown}
use Rattle.model_core.specs.History.{IsPrefix}
use Rattle.heap_rule.specs.Limits.{sizes_in}
use Rattle.run_session.specs.Sessions.{SessionView}
use Rattle.weak_laws.specs.Tables.Structures.{Binding}
use Rattle.weak_laws.specs.Tables.Stages.{graph_of, held_in}
use Rattle.weak_laws.specs.Tables.Performing.{Performed}
use Rattle.weak_laws.specs.Maps.Steps.{WasUnreached}
use Rattle.weak_laws.specs.Maps.Calls.{value_of}
use Rattle.weak_maps.specs.Beside.{refusals_by}
use Rattle.weak_cache.specs.Uses.{SlotsLeft, cached_in, put_first, taken, touched}
use Rattle.weak_cache.specs.Caches.{slots_after}
use Rattle.weak_cache.specs.Caches as weak
use Rattle.example_cache.specs.declared.cache.Inserted.{Inserted}
use Rattle.example_cache.specs.declared.cache.Inserted.TheVariants.{Stored, NoRoom, NoKey}

-- a cache: the heap, and how many entries it has at most
pub record CacheView : Type 0 where
  pub heap : SessionView
  pub most : ℕ

-- what a register of the program holds
abbrev pub holds : CacheView → ℕ → Value
holds c r = held_in (sizes_in c.heap.config) c.heap.front r

-- the block of a cache of so many slots is in register 7
pub record HasCache (z : Sizes) (h : List Entry) (size : ℕ) : Type 0 where
  pub root : Label
  pub held : held_in z h 7 ≡ Block root
  pub cache : weak.IsCache (graph_of z h) root size

abbrev pub IsCache : CacheView → Type 0
IsCache c = HasCache (sizes_in c.heap.config) c.heap.front c.most

-- the places of a cache in the order of use, the last used first: each has a key and its entry, or nothing
abbrev pub places_in : Sizes → List Entry → Value → List (Option Binding)
places_in z h (Block root) = slots_after z h root
places_in z h v = []

abbrev pub places : CacheView → List (Option Binding)
places c = places_in (sizes_in c.heap.config) c.heap.front (holds c 7)

-- the entry of a key, or none
abbrev pub entry : CacheView → Label → Option Value
entry c k = cached_in k (places c)

-- a key was outside reach at some moment of a call, and isn't the one that the call is about
abbrev pub WasGone : CacheView → CacheView → Option Label → Label → Type 0
WasGone old new key k = WasUnreached (sizes_in old.heap.config) old.heap.front new.heap.front k × (key ≢ Some k)

-- a call leaves these places, but for the entries of keys that were gone, and the bound as it was
pub record Leaves (old new : CacheView) (key : Option Label) (left : List (Option Binding)) : Type 0 where
  pub most : new.most ≡ old.most
  pub sizes : sizes_in new.heap.config ≡ sizes_in old.heap.config
  pub grows : IsPrefix old.heap.front new.heap.front
  pub places : SlotsLeft (WasGone old new key) left (places new)

-- it leaves all as it was
abbrev pub KeepsAll : CacheView → CacheView → Type 0
KeepsAll old new = Leaves old new None (places old)

-- the program's registers hold what they held, all but one
abbrev pub KeepsRegisters : CacheView → CacheView → ℕ → Type 0
KeepsRegisters old new but = (r : ℕ) → r < 7 → r ≢ but → holds new r ≡ holds old r

-- commands that change no block of the cache, nor register 7
abbrev pub SparesCache : Command → Type 0
SparesCache (Alloc dst tag fields) = (dst < 7) × (tag ≤ 245) × (1 ≤ fields) × (fields ≤ 1022)
SparesCache (Forget dst) = dst < 7
SparesCache FullMajor = Unit {0}
SparesCache _ = ⊥

-- registers that such a command leaves
abbrev pub IsKept : Command → ℕ → Type 0
IsKept (Alloc dst tag fields) r = r ≢ dst
IsKept (Forget dst) r = r ≢ dst
IsKept _ r = Unit {0}

-- no cache was made: no label was left, or the allocation was refused
abbrev pub NoCache : SessionView → SessionView → Type 0
NoCache old new = (new.config ≡ old.config) × (((old.labels ≡ 4294967295) × (new ≡ old)) ⊎ (refusals_by 0 new.front ≡ refusals_by 0 old.front + 1))

-- what making a key answers: a block that was made; or none was, where no label is left or the allocation was refused
abbrev pub KeyAnswers : CacheView → CacheView → ℕ → Bool → Type 0
KeyAnswers old new r true = (k : Label) × Performed (sizes_in old.heap.config) old.heap.front new.heap.front (Alloc r 0 1) (reply.Block k) × (holds new r ≡ Block k)
KeyAnswers old new r false = ((old.heap.labels ≡ 4294967295) × (new.heap.front ≡ old.heap.front)) ⊎ Performed (sizes_in old.heap.config) old.heap.front new.heap.front (Alloc r 0 1) reply.Full

-- a complete collection was made
abbrev pub HasCollected : CacheView → CacheView → Type 0
HasCollected old new = (r : Reply) × Performed (sizes_in old.heap.config) old.heap.front new.heap.front FullMajor r

-- the heap has no room for an insertion exactly where no label is left, no ephemeron fits, or an allocation was refused
abbrev pub RoomAnswers : CacheView → CacheView → Inserted → Type 0
RoomAnswers old new NoRoom = (old.heap.labels ≡ 4294967295) ⊎ (old.heap.room ≡ 0) ⊎ (refusals_by 0 new.heap.front ≡ refusals_by 0 old.heap.front + 1)
RoomAnswers old new r = (old.heap.labels < 4294967295) × (0 < old.heap.room) × (refusals_by 0 new.heap.front ≡ refusals_by 0 old.heap.front)

-- what an insertion leaves: the new entry first, for which the last goes unless the key had one; or what there was, where the heap had no room, or one register held no key or the other nothing
abbrev pub InsertAnswers : CacheView → CacheView → Option Label → Value → Inserted → Type 0
InsertAnswers old new key item Stored = (k : Label) × (key ≡ Some k) × (item ≢ Nothing) × Leaves old new key (put_first k item (places old))
InsertAnswers old new key item NoRoom = Leaves old new key (places old)
InsertAnswers old new key item NoKey = ((key ≡ None) ⊎ (item ≡ Nothing)) × Leaves old new key (places old)

-- the entry that a reply shows, if it shows one
abbrev pub entry_of : Reply → Option Reply
entry_of reply.BadType = None
entry_of reply.Empty = None
entry_of r = Some r

-- what the reply of a put says of it
abbrev pub inserted_of : Reply → Inserted
inserted_of reply.BadType = NoKey
inserted_of reply.Full = NoRoom
inserted_of r = Stored

-- what a look-up answers and leaves: nothing where the register holds no key, or the cache has no entry of it; else the entry, whose key is the last used then
abbrev pub GetAnswers : CacheView → CacheView → ℕ → Option Label → Option Reply → Type 0
GetAnswers old new dst None result = (result ≡ None) × Leaves old new None (places old)
GetAnswers old new dst (Some k) result = (result ≡ entry_of (shown (value_of (entry old k)))) × (holds new dst ≡ value_of (entry old k)) × Leaves old new (Some k) (touched k (entry old k) (places old))

-- what taking an entry out answers and leaves: the cache has none of the key then
abbrev pub TakeAnswers : CacheView → CacheView → ℕ → Option Label → Option Reply → Type 0
TakeAnswers old new dst None result = (result ≡ None) × Leaves old new None (places old)
TakeAnswers old new dst (Some k) result = (result ≡ entry_of (shown (value_of (entry old k)))) × (holds new dst ≡ value_of (entry old k)) × Leaves old new (Some k) (taken k (places old))
