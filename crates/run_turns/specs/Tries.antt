-- What the try of a command leaves.
use Rattle.std.specs.Prelude.{◌≡◌, ℕ, ◌+◌, ◌*◌, ◌<◌, ◌≤◌, ◌⊎◌, List, Bool, true, false, length, Some, None}
use Rattle.model_core.specs.declared.command.Command.{Command}
use Rattle.model_core.specs.declared.command.Command.TheVariants.{PutInt, Copy, Forget, Alloc, AllocMaj, Load, Store, Ephe, SetKey, UnsetKey, GetKey, CheckKey, SetData, UnsetData, GetData, CheckData, Finalise, FinaliseLast, Poll, Minor, Major, FullMajor, Raw, Cas, Spawn, PutResult}
use Rattle.model_core.specs.declared.entry.Entry.{Entry}
use Rattle.model_core.specs.declared.entry.Entry.TheVariants.{Command as CommandOf}
use Rattle.model_core.specs.declared.reply.Reply.{Reply}
use Rattle.model_core.specs.declared.reply.Reply.TheVariants.{Block}
use Rattle.model_core.specs.declared.reply.Applied.TheVariants.{Replied}
pub use Rattle.model_core.specs.Counts.Counts.{ephemerons_given, ephemerons_of, labels_given, labels_of}
use Rattle.run_turns.specs.declared.command.Attempt.{Attempt}
use Rattle.run_turns.specs.declared.command.Attempt.TheVariants.{Made, Needs, NoRoom}
use Rattle.model_core.specs.Fronts.{Answers}
use Rattle.heap_words.specs.declared.value.Value.{Value}
use Rattle.heap_words.specs.declared.value.Value.TheVariants.{Int, Ref}
use Rattle.heap_words.specs.Values.{IsPackable}
use Rattle.heap_words.specs.Classes.Table.{IsLeastFor}
use Rattle.heap_words.specs.declared.classes.TheConstants.{SIZES}
use Rattle.heap_rule.specs.Pools.{last_found}
use Rattle.heap_rule.specs.declared.config.Config.{Config}
use Rattle.heap_rule.specs.declared.view.DomainView.{DomainView}
use Rattle.heap_rule.specs.declared.view.Finalisers.{Finalisers}
use Rattle.heap_rule.specs.declared.view.Own.{Own}
use Rattle.heap_rule.specs.declared.view.Search.{Search}
use Rattle.heap_words.specs.Remembered.Bounded.{Bounded}
use Rattle.heap_rule.specs.Places.{class_words}
use Rattle.heap_rule.specs.Changes.{value_at}
use Rattle.do_fields.specs.Fields.Remembered.{PutsYoung, SetsYoung, field_of, one_more}
use Rattle.do_ephemerons.specs.Words.{word_in}
use Rattle.do_finalisers.specs.Registering.{own_finalised, own_finalised_last}
use Rattle.step_pools.specs.Ephemerons.{with_ephemeron}
use Rattle.heap_rule.specs.Limits.{sizes_in}
use Rattle.heap_rule.specs.Running.{Runs, Stays}
use Rattle.heap_rule.specs.Standing.{Looked, with_front}
use Rattle.step_pools.specs.Takes.{NoneFree}
use Rattle.heap_rule.specs.Token.{Token, SharedHeap}
use Rattle.do_alloc.specs.Young.Area.{HasRoom, IsOpened, IsShut}
use Rattle.do_alloc.specs.Pools.Created.{with_list}
use Rattle.do_alloc.specs.Pools.Taken.{Reserved, HasPlace, MaySweep, Sought}
use Rattle.heap_rule.specs.declared.view.Swept.{Swept}
use Rattle.model_core.specs.Domains.{class_count, domain_at, reserve}
use Rattle.heap_rule.specs.declared.view.Hunt.TheVariants.{Rests}
use Rattle.heap_rule.specs.Rule.{state_of}
use Rattle.heap_rule.specs.Token.{IsIn}
use Rattle.gc_pause.specs.declared.stops.answer.Want.{Want}
use Rattle.gc_pause.specs.declared.stops.answer.Want.TheVariants.{Cycle, Full}
use Rattle.gc_pause.specs.declared.stops.answer.Want.TheVariants.{Minor as Young}

-- the commands that run on the shared heap, with their numbers in their ranges
abbrev pub FitsHeap : Command → Type 0
FitsHeap (PutInt dst value) = (dst < 16) × IsPackable (Int value)
FitsHeap (Copy dst src) = (dst < 16) × (src < 16)
FitsHeap (Forget dst) = dst < 16
FitsHeap (Alloc dst tag fields) = (dst < 16) × (tag ≤ 245) × (1 ≤ fields) × (fields ≤ 1022)
FitsHeap (AllocMaj dst tag fields) = (dst < 16) × (tag ≤ 245) × (1 ≤ fields) × (fields ≤ 1022)
FitsHeap (Raw dst tag fields) = (dst < 16) × (251 ≤ tag) × (tag < 256) × (1 ≤ fields) × (fields ≤ 1022)
FitsHeap (Load dst src index) = (dst < 16) × (src < 16)
FitsHeap (Store block index item) = (block < 16) × (item < 16)
FitsHeap (Cas block index expected item) = (block < 16) × (expected < 16) × (item < 16)
FitsHeap (Ephe dst keys) = (dst < 16) × (1 ≤ keys) × (keys ≤ 8)
FitsHeap (SetKey ephe index item) = (ephe < 16) × (item < 16)
FitsHeap (UnsetKey ephe index) = ephe < 16
FitsHeap (GetKey dst ephe index) = (dst < 16) × (ephe < 16)
FitsHeap (CheckKey ephe index) = ephe < 16
FitsHeap (SetData ephe item) = (ephe < 16) × (item < 16)
FitsHeap (UnsetData ephe) = ephe < 16
FitsHeap (GetData dst ephe) = (dst < 16) × (ephe < 16)
FitsHeap (CheckData ephe) = ephe < 16
FitsHeap (Finalise item number dst) = (item < 16) × (dst < 16)
FitsHeap (FinaliseLast item number) = item < 16
FitsHeap Poll = Unit {0}
FitsHeap Minor = Unit {0}
FitsHeap Major = Unit {0}
FitsHeap FullMajor = Unit {0}
FitsHeap _ = ⊥

-- how many finalisers a command registers at most
abbrev pub registrations_of : Command → ℕ
registrations_of (Finalise item number dst) = 1
registrations_of (FinaliseLast item number) = 1
registrations_of _ = 0

-- a store, after which the domain may have to remember one word more
abbrev pub IsStore : Command → Type 0
IsStore (Store block index item) = Unit {0}
IsStore (Cas block index expected item) = Unit {0}
IsStore (SetKey ephe index item) = Unit {0}
IsStore (SetData ephe item) = Unit {0}
IsStore _ = ⊥

-- a command for which no pause must come first, and that changes registers at most of what its domain owns
abbrev pub IsPlainCall : Command → Type 0
IsPlainCall (PutInt dst value) = Unit {0}
IsPlainCall (Copy dst src) = Unit {0}
IsPlainCall (Forget dst) = Unit {0}
IsPlainCall (Load dst src index) = Unit {0}
IsPlainCall (UnsetKey ephe index) = Unit {0}
IsPlainCall (GetKey dst ephe index) = Unit {0}
IsPlainCall (CheckKey ephe index) = Unit {0}
IsPlainCall (UnsetData ephe) = Unit {0}
IsPlainCall (GetData dst ephe) = Unit {0}
IsPlainCall (CheckData ephe) = Unit {0}
IsPlainCall _ = ⊥

-- a pause must come first: none has served a `minor` or a `major`, the minor area has no room for the young block, or the domain can't remember one word more, or two for a spawn. A `full_major` is answered in a pause
abbrev pub NeedsPause : Config → Own → Bool → Command → Type 0
NeedsPause k own served Minor = served ≡ false
NeedsPause k own served Major = served ≡ false
NeedsPause k own served FullMajor = Unit {0}
NeedsPause k own served (Alloc dst tag fields) = k.minor_words < own.used + class_words (fields + 2)
NeedsPause k own served (Raw dst tag fields) = k.minor_words < own.used + class_words (fields + 2)
NeedsPause k own served (Store block index item) = own.remembered.room < 1
NeedsPause k own served (Cas block index expected item) = own.remembered.room < 1
NeedsPause k own served (SetKey ephe index item) = own.remembered.room < 1
NeedsPause k own served (SetData ephe item) = own.remembered.room < 1
NeedsPause k own served (Spawn section item) = own.remembered.room < 2
NeedsPause k own served (PutResult item) = own.remembered.room < 1
NeedsPause k own served _ = ⊥

-- and which is asked for: a collection of the major heap, a complete one, or one of young blocks
abbrev pub wish_of : Command → Want
wish_of Major = Cycle
wish_of FullMajor = Full
wish_of _ = Young

-- the entry of a command that is answered `full`
abbrev pub full_entry : Token → Command → Entry
full_entry t c = CommandOf t.view.own.number c true

-- how many words of the domain's minor area a command takes: those of the block of an allocation that isn't answered `full`
abbrev pub words_taken : Command → Reply → ℕ
words_taken (Alloc dst tag fields) (Block l) = class_words (fields + 2)
words_taken (Raw dst tag fields) (Block l) = class_words (fields + 2)
words_taken _ _ = 0

-- the entry of a command stands, answered `full` or not
abbrev pub Enters : Token → Token → Command → Bool → Reply → Type 0
Enters old new c full r = Answers (sizes_in old.config) old.view.own.number old.view.seen.front new.view.seen.front (CommandOf old.view.own.number c full) (Replied r)

-- no own pool has a free place for a block of so many words, none is left to be swept, and the pools that were found free are no more than the reserve of promotion
pub record HasNoPool (k : Config) (words : ℕ) (x y : DomainView) : Type 0 where
  pub free : ℕ
  pub reserved : Reserved k free x y
  pub none_free : (class : ℕ) → IsLeastFor SIZES words class → NoneFree k y class
  pub swept : k.pools ≤ y.own.swept.spot.pool

-- a place for a block of so many words was found in an own pool, at once or after a sweep, or more pools were found free than the reserve of promotion
abbrev pub HasPool : Config → ℕ → DomainView → DomainView → Type 0
HasPool k words x y = (class : ℕ) → IsLeastFor SIZES words class → HasPlace k class x y

-- the minor area has room for a block of so many fields, and as many pools were found free as promotion may need
pub record HasSpace (h : SharedHeap) (old new : Token) (fields : ℕ) : Type 0 where
  pub room : HasRoom h.config old.view fields
  pub enough : IsOpened h.config old.view new.view

-- or it has, and fewer pools were found free
pub record HasNoSpace (h : SharedHeap) (old new : Token) (fields : ℕ) : Type 0 where
  pub room : HasRoom h.config old.view fields
  pub few : IsShut h.config old.view new.view

-- the domain has made no entry since a complete collection
abbrev pub IsFresh : Config → DomainView → Type 0
IsFresh k x = (domain_at (state_of k x.seen.front) x.own.number).fresh ≡ true

-- the entry that stands: after a complete collection for this command an allocation is answered `full`, for a young block exactly where too few pools are free, and for one of the major heap exactly where no pool is to be had
abbrev pub Stands : SharedHeap → Token → Token → Command → Bool → Reply → Type 0
Stands h old new (Alloc dst tag fields) collected r =
    (Enters old new (Alloc dst tag fields) false r × HasSpace h old new fields)
    ⊎ (Enters old new (Alloc dst tag fields) true r × HasNoSpace h old new fields × (collected ≡ true))
Stands h old new (Raw dst tag fields) collected r =
    (Enters old new (Raw dst tag fields) false r × HasSpace h old new fields)
    ⊎ (Enters old new (Raw dst tag fields) true r × HasNoSpace h old new fields × (collected ≡ true))
Stands h old new (AllocMaj dst tag fields) collected r =
    (Enters old new (AllocMaj dst tag fields) false r × HasPool h.config (fields + 2) old.view new.view)
    ⊎ (Enters old new (AllocMaj dst tag fields) true r × HasNoPool h.config (fields + 2) old.view new.view × (collected ≡ true))
Stands h old new (Ephe dst keys) collected r =
    (Enters old new (Ephe dst keys) false r × HasPool h.config (keys + 3) old.view new.view)
    ⊎ (Enters old new (Ephe dst keys) true r × HasNoPool h.config (keys + 3) old.view new.view × (collected ≡ true))
Stands h old new c collected r = Enters old new c false r

-- why an allocation is refused: too few pools are free, or none is to be had
abbrev pub IsRefused : SharedHeap → Token → Token → Command → Type 0
IsRefused h old new (Alloc dst tag fields) = HasNoSpace h old new fields
IsRefused h old new (Raw dst tag fields) = HasNoSpace h old new fields
IsRefused h old new (AllocMaj dst tag fields) = HasNoPool h.config (fields + 2) old.view new.view
IsRefused h old new (Ephe dst keys) = HasNoPool h.config (keys + 3) old.view new.view
IsRefused h old new _ = ⊥

-- so many blocks were made by the domain's front that, with the reserve and one pool for each size class and domain, they are at least as many as the pools
abbrev pub HasMany : Config → DomainView → Type 0
HasMany k x = k.pools ≤ length (state_of k x.seen.front).graph + reserve (sizes_in k) + class_count * k.domains

-- an allocation was refused, and no complete collection came before for this command: nothing has changed but what was looked at for it, and what a sweep of own pools changes. Behind the search the front is the whole history so far, in which many blocks were made
pub record Refused (h : SharedHeap) (old new : Token) (c : Command) (collected : Bool) : Type 0 where
  pub here : IsIn new h
  pub refused : IsRefused h old new c
  pub before : collected ≡ false
  pub view : Sought h.config old.view (with_front new.view old.view.seen.front) Rests
  pub looked : Looked h.config (with_front new.view old.view.seen.front) new.view
  pub many : HasMany h.config new.view

-- the entry of the command was made with the reply `full`
pub record RefusesFull (h : SharedHeap) (old new : Token) (c : Command) (r : Reply) : Type 0 where
  pub runs : Runs h new
  pub answers : Answers (sizes_in old.config) old.view.own.number old.view.seen.front new.view.seen.front (full_entry old c) (Replied r)
  pub heap : (new.table ≡ old.table) × (new.config ≡ old.config)
  pub stays : Stays old.view new.view
  pub free : new.view.seen.free ≡ old.view.seen.free

-- no more pools were found free than the reserve of promotion
abbrev pub HasFew : Config → DomainView → Type 0
HasFew k x = (free : ℕ) × (last_found x ≡ Some free) × (free ≤ reserve (sizes_in k))

-- a domain looked at the whole history so far, in which many blocks were made, and nothing else has changed
pub record SeesMany (h : SharedHeap) (old new : Token) : Type 0 where
  pub here : IsIn new h
  pub looked : Looked h.config old.view new.view
  pub many : HasMany h.config new.view

-- an allocation that found no room was answered `full`, or the domain looked at the history
abbrev pub RefusesAs : SharedHeap → Token → Token → Command → Bool → Attempt → Type 0
RefusesAs h old new c collected (Made r) = (collected ≡ true) × RefusesFull h old new c r × (new.view.own ≡ record old.view.own { registers = new.view.own.registers })
RefusesAs h old new c collected (Needs want) = ⊥
RefusesAs h old new c collected NoRoom = (collected ≡ false) × SeesMany h old new

-- how far the places of each size class were then looked at: an allocation in the major heap may look at more of them
abbrev pub looked_by : Command → Own → Own → List Search
looked_by (AllocMaj dst tag fields) old new = new.looked
looked_by (Ephe dst keys) old new = new.looked
looked_by _ old new = old.looked

-- how far own pools were then swept: before an allocation in the major heap is refused they are
abbrev pub swept_by : Command → Own → Own → Swept
swept_by (AllocMaj dst tag fields) old new = new.swept
swept_by (Ephe dst keys) old new = new.swept
swept_by _ old new = old.swept

-- which words the domain then remembers: a store may add one
abbrev pub remembered_by : Command → Own → Own → Bounded ℕ
remembered_by (Store block index item) old new = new.remembered
remembered_by (Cas block index expected item) old new = new.remembered
remembered_by (SetKey ephe index item) old new = new.remembered
remembered_by (SetData ephe item) old new = new.remembered
remembered_by _ old new = old.remembered

-- what exactly: a store that puts a block of a minor area into a block of a pool adds the address of the word, behind the others, and else none is added
abbrev pub RemembersWord : Config → Own → Own → ℕ → ℕ → ℕ → Reply → Type 0
RemembersWord k old new block item at r =
    (PutsYoung k r (value_at old.registers block) (value_at old.registers item) → new.remembered ≡ one_more at old.remembered)
    × ((PutsYoung k r (value_at old.registers block) (value_at old.registers item) → ⊥) → new.remembered ≡ old.remembered)

-- and so does a compare-and-set that is made
abbrev pub SetsWord : Config → Own → Own → ℕ → ℕ → ℕ → Reply → Type 0
SetsWord k old new block item at r =
    (SetsYoung k r (value_at old.registers block) (value_at old.registers item) → new.remembered ≡ one_more at old.remembered)
    × ((SetsYoung k r (value_at old.registers block) (value_at old.registers item) → ⊥) → new.remembered ≡ old.remembered)

-- no other command adds one
abbrev pub Remembers : Config → Own → Own → Command → Reply → Type 0
Remembers k old new (Store block index item) r = RemembersWord k old new block item (field_of (value_at old.registers block) index) r
Remembers k old new (Cas block index expected item) r = SetsWord k old new block item (field_of (value_at old.registers block) index) r
Remembers k old new (SetKey ephe index item) r = RemembersWord k old new ephe item (word_in (value_at old.registers ephe) (Some index)) r
Remembers k old new (SetData ephe item) r = RemembersWord k old new ephe item (word_in (value_at old.registers ephe) None) r
Remembers k old new _ r = new.remembered ≡ old.remembered

-- the address of the block that the value is
abbrev pub address_of : Value → ℕ
address_of (Ref a) = a
address_of _ = 0

-- which ephemerons the domain then lists: an allocation in the major heap may change the list
abbrev pub listed_by : Command → Own → Own → Bounded ℕ
listed_by (AllocMaj dst tag fields) old new = new.ephemerons
listed_by (Ephe dst keys) old new = new.ephemerons
listed_by _ old new = old.ephemerons

-- what exactly: one that was made is listed behind the others, by the address that its register holds, and where own pools were swept first the others are those that were left
abbrev pub ListsEphemeron : Config → DomainView → DomainView → Command → Reply → Type 0
ListsEphemeron k x y (AllocMaj dst tag fields) r = MaySweep k x y
ListsEphemeron k x y (Ephe dst keys) (Block l) = (list : Bounded ℕ) × (y.own.ephemerons ≡ with_ephemeron (address_of (value_at y.own.registers dst)) list) × MaySweep k x (with_list y list)
ListsEphemeron k x y (Ephe dst keys) r = MaySweep k x y
ListsEphemeron k x y c r = y.own.ephemerons ≡ x.own.ephemerons

-- which finalisers the domain then has: one that was registered is the newest
abbrev pub enlisted_by : Command → Own → Finalisers
enlisted_by (Finalise item number dst) old = (own_finalised (value_at old.registers item) number dst old).finalisers
enlisted_by (FinaliseLast item number) old = (own_finalised_last (value_at old.registers item) number old).finalisers
enlisted_by _ old = old.finalisers

-- what the domain then owns: the registers are those that the entry left, and all but what is named is as it was
abbrev pub own_after : Token → Token → Command → Reply → Own
own_after old new c r = record old.view.own {
  registers = new.view.own.registers;
  used = old.view.own.used + words_taken c r;
  serial = old.view.own.serial + labels_given c r;
  looked = looked_by c old.view.own new.view.own;
  remembered = remembered_by c old.view.own new.view.own;
  swept = swept_by c old.view.own new.view.own;
  ephemerons = listed_by c old.view.own new.view.own;
  finalisers = enlisted_by c old.view.own;
}

-- the entry of the command was made
pub record Tried (h : SharedHeap) (old new : Token) (c : Command) (collected : Bool) (r : Reply) : Type 0 where
  pub runs : Runs h new
  pub stands : Stands h old new c collected r
  pub heap : (new.table ≡ old.table) × (new.config ≡ old.config)
  pub stays : Stays old.view new.view
  pub own : new.view.own ≡ own_after old new c r
  pub remembers : Remembers h.config old.view.own new.view.own c r
  pub lists : ListsEphemeron h.config old.view new.view c r

-- what the try of a command came to: its reply, a wish that must be served first, or a refusal
abbrev pub AttemptAnswers : SharedHeap → Token → Token → Command → Bool → Bool → Attempt → Type 0
AttemptAnswers h old new c served collected (Made r) = Tried h old new c collected r × (NeedsPause h.config old.view.own served c → ⊥)
AttemptAnswers h old new c served collected (Needs want) = (new ≡ old) × NeedsPause h.config old.view.own served c × (want ≡ wish_of c)
AttemptAnswers h old new c served collected NoRoom = Refused h old new c collected × (NeedsPause h.config old.view.own served c → ⊥)
