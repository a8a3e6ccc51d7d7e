-- What the exports on weak maps leave.
use Rattle.std.specs.Prelude.{◌≡◌, ◌≢◌, ◌↔◌, ◌⊎◌, ℕ, ◌+◌, ◌-◌, ◌<◌, ◌≤◌, true, false, List}
use Rattle.model_core.specs.declared.entry.Entry.{Entry}
use Rattle.model_core.specs.declared.reply.Reply.{Reply}
use Rattle.model_core.specs.declared.state.Sizes.{Sizes}
use Rattle.model_core.specs.Fronts.{IsFrontOf}
use Rattle.model_core.specs.History.{IsPrefix}
use Rattle.heap_rule.specs.Limits.{sizes_in}
use Rattle.run_turns.specs.Singly.Driving.{registered}
use Rattle.run_seats.specs.Shared.Sharing.{MayClose, SharedView}
use Rattle.weak_laws.specs.Tables.Performing.{is_spared}
use Rattle.weak_maps.specs.Beside.{WritesAtMost}
use Rattle.weak_maps.specs.Guards.{PutGuards, TakeGuards}
use Rattle.weak_maps.specs.Returns.{FollowsAt, MakeReturns}
use Rattle.weak_maps.specs.Walks.{OwnQuiet}
use Rattle.weak_direct.specs.Leaves.{GetsAt, StopsAt, TakesAt}
use Rattle.weak_direct.specs.Puts.{PutStops, PutsAt, TrySpends}
use Rattle.weak_direct.specs.Tries.{KeepsBeside}
use Rattle.camlheap_c.specs.declared.crossing.CamlheapReply.{CamlheapReply}
use Rattle.camlheap_c.specs.declared.handle.CamlheapDomain.{CamlheapDomain}
use Rattle.camlheap_c.specs.Exported.{RefusesClose}
use Rattle.camlheap_c.specs.Forms.{reply_form}

-- the numbers of a domain's heap, its own number, and what it has seen of the history
abbrev pub sizes_of : SharedView → Sizes
sizes_of s = sizes_in s.heap.config

abbrev pub number_of : SharedView → ℕ
number_of s = s.run.token.view.own.number

abbrev pub front_of : SharedView → List Entry
front_of s = s.run.token.view.seen.front

-- how many labels are left for the domain's blocks, and how many ephemerons fit into its list
abbrev pub labels_left : SharedView → ℕ
labels_left s = 4294967295 - s.run.token.view.own.serial

abbrev pub room_left : SharedView → ℕ
room_left s = s.run.token.view.own.ephemerons.room

-- the domain is the same, in the same heap, and has seen more of the history. It waits for its next command as it did; what waits to be taken of its finalisers, and how many are registered, is the same
pub record GoesOnIn (old new : SharedView) : Type 0 where
  pub heap : new.heap ≡ old.heap
  pub number : number_of new ≡ number_of old
  pub grows : IsPrefix (front_of old) (front_of new)
  pub ready : MayClose old → MayClose new
  pub ran : new.run.ran ≡ old.run.ran
  pub unregistered : registered new.run ≡ registered old.run

-- no label was given out and no ephemeron made, and at most so many of the domain's entries since write a register from 1 to 7
pub record MakesNoBlock (old new : SharedView) (writes : ℕ) : Type 0 where
  pub labels : labels_left new ≡ labels_left old
  pub room : room_left old ≤ room_left new
  pub written : WritesAtMost (number_of old) (front_of old) (front_of new) writes

-- the domain has changed no block, and a map with each leaf on its key's way is one still, if others respect it
pub record LooksOn (old new : SharedView) (map writes : ℕ) : Type 0 where
  pub goes_on : GoesOnIn old new
  pub none : MakesNoBlock old new writes
  pub quiet : OwnQuiet (sizes_of old) (number_of old) (front_of old) (front_of new)
  pub follows : FollowsAt (sizes_of old) (number_of old) (front_of old) (front_of new) map

-- C reads a reply of which this holds
pub record Reads (read : CamlheapReply) (P : Reply → Type 0) : Type 0 where
  pub reply : Reply
  pub is_read : read ≡ reply_form reply
  pub holds : P reply

-- the registers that a call is given are below 8
abbrev pub AreLow : ℕ → ℕ → ℕ → Type 0
AreLow a b c = (a < 8) × (b < 8) × (c < 8)

-- why a call on a map isn't begun, as a number: the domain takes no command, or a register isn't below 8
abbrev pub RefusesMap : SharedView → Type 0 → ℕ → Type 0
RefusesMap s Low told = RefusesClose s told ⊎ ((told ≡ 23) × (Low → ⊥))

-- a look at a key, by what the call answers: 0 where it is answered, 1 where a command was put off, and then each register but 8 to 11 holds what it held
pub record LooksUp (old new : SharedView) (dst map key : ℕ) (before read : CamlheapReply) (told : ℕ) : Type 0 where
  pub on : LooksOn old new map (is_spared dst)
  pub made : told ≡ 0 → Reads read (GetsAt (sizes_of old) (number_of old) (front_of old) (front_of new) dst map key)
  pub again : told ≢ 0 → KeepsBeside (sizes_of old) (number_of old) (front_of old) (front_of new)
  pub unread : told ≢ 0 → read ≡ before

-- a binding is taken out, by what the call answers: 0 where it is answered, 1 where it has stopped, and then no binding was changed. Its entries respect the map as long as the others' do, and each register but 8 to 11 holds what it held
pub record TakesOut (old new : SharedView) (map key : ℕ) (before read : CamlheapReply) (told : ℕ) : Type 0 where
  pub goes_on : GoesOnIn old new
  pub none : MakesNoBlock old new 0
  pub keeps : KeepsBeside (sizes_of old) (number_of old) (front_of old) (front_of new)
  pub guards : TakeGuards (sizes_of old) (number_of old) (front_of old) (front_of new) map
  pub follows : FollowsAt (sizes_of old) (number_of old) (front_of old) (front_of new) map
  pub made : told ≡ 0 → Reads read (TakesAt (sizes_of old) (number_of old) (front_of old) (front_of new) map key)
  pub again : told ≢ 0 → StopsAt (sizes_of old) (number_of old) (front_of old) (front_of new) map
  pub unread : told ≢ 0 → read ≡ before

-- a binding is put, by what the call answers: 0 where it is answered, with its refusals and labels counted, 1 where it has stopped, and then no binding was changed. Its entries respect the map as long as the others' do, each register but 8 to 11 holds what it held, and it has taken at most two labels and room for one ephemeron
pub record PutsIn (old new : SharedView) (map key item : ℕ) (before read : CamlheapReply) (told : ℕ) : Type 0 where
  pub goes_on : GoesOnIn old new
  pub written : WritesAtMost (number_of old) (front_of old) (front_of new) 0
  pub keeps : KeepsBeside (sizes_of old) (number_of old) (front_of old) (front_of new)
  pub guards : PutGuards (sizes_of old) (number_of old) (front_of old) (front_of new) map
  pub follows : FollowsAt (sizes_of old) (number_of old) (front_of old) (front_of new) map
  pub labels : labels_left old ≤ labels_left new + 2
  pub room : room_left old ≤ room_left new + 1
  pub made : told ≡ 0 → Reads read (λ (r : Reply). PutsAt (sizes_of old) (number_of old) (front_of old) (front_of new) map key item r × TrySpends (number_of old) (labels_left old) (labels_left new) (front_of old) (front_of new) r)
  pub again : told ≢ 0 → PutStops (sizes_of old) (number_of old) (front_of old) (front_of new) map
  pub unread : told ≢ 0 → read ≡ before

-- the make of a map: 1 where it was put off, and then the domain has made no entry
pub record MakesMap (old new : SharedView) (dst : ℕ) (before read : CamlheapReply) (told : ℕ) : Type 0 where
  pub goes_on : GoesOnIn old new
  pub made : told ≡ 0 → Reads read (MakeReturns (sizes_of old) (number_of old) (front_of old) (front_of new) dst)
  pub again : told ≢ 0 → IsFrontOf (number_of old) (front_of new) (front_of old)
  pub unread : told ≢ 0 → read ≡ before

-- a call on a map may be begun: the domain takes a command, and the registers are below 8
abbrev pub MayCall : SharedView → Type 0 → Type 0
MayCall s Low = MayClose s × Low

-- what a call on a map leaves in a handle: a handle that holds none is told as such; the call was begun, as it is only where it may be, or it isn't, and then nothing has changed
pub record CallsMap (old new : CamlheapDomain) (May : Type 0) (Does Refuses : ℕ → Type 0) (before read : CamlheapReply) (told : ℕ) : Type 0 where
  pub kept : new.full ≡ old.full
  pub none : (old.full ≡ false) ↔ (told ≡ 16)
  pub does : old.full ≡ true → told < 17 → Does told
  pub few : old.full ≡ true → told < 17 → told < 2
  pub may : old.full ≡ true → told < 17 → May
  pub why : old.full ≡ true → 17 ≤ told → Refuses told
  pub same : old.full ≡ true → 17 ≤ told → (new.value ≡ old.value) × (read ≡ before)
  pub unread : old.full ≡ false → read ≡ before

abbrev pub GetsFor : CamlheapDomain → CamlheapDomain → ℕ → ℕ → ℕ → CamlheapReply → CamlheapReply → ℕ → Type 0
GetsFor old new dst map key before read told = CallsMap old new (MayCall old.value (AreLow dst map key)) (λ (n : ℕ). LooksUp old.value new.value dst map key before read n) (λ (n : ℕ). RefusesMap old.value (AreLow dst map key) n) before read told

abbrev pub TakesFor : CamlheapDomain → CamlheapDomain → ℕ → ℕ → CamlheapReply → CamlheapReply → ℕ → Type 0
TakesFor old new map key before read told = CallsMap old new (MayCall old.value ((map < 8) × (key < 8))) (λ (n : ℕ). TakesOut old.value new.value map key before read n) (λ (n : ℕ). RefusesMap old.value ((map < 8) × (key < 8)) n) before read told

-- a call isn't begun for want of labels
abbrev pub LacksLabel : SharedView → ℕ → ℕ → Type 0
LacksLabel s most told = (told ≡ 22) × (4294967295 < s.run.token.view.own.serial + most)

abbrev pub MakesFor : CamlheapDomain → CamlheapDomain → ℕ → CamlheapReply → CamlheapReply → ℕ → Type 0
MakesFor old new dst before read told = CallsMap old new (MayCall old.value (dst < 8) × (1 ≤ labels_left old.value)) (λ (n : ℕ). MakesMap old.value new.value dst before read n) (λ (n : ℕ). RefusesMap old.value (dst < 8) n ⊎ LacksLabel old.value 1 n) before read told

-- nor is a put for want of room for an ephemeron
abbrev pub LacksRoom : SharedView → ℕ → Type 0
LacksRoom s told = (told ≡ 20) × (room_left s ≡ 0)

-- a put may be begun where there are two labels and room for an ephemeron besides
abbrev pub MayPut : SharedView → ℕ → ℕ → ℕ → Type 0
MayPut s map key item = MayCall s (AreLow map key item) × (2 ≤ labels_left s) × (1 ≤ room_left s)

abbrev pub RefusesPut : SharedView → ℕ → ℕ → ℕ → ℕ → Type 0
RefusesPut s map key item told = RefusesMap s (AreLow map key item) told ⊎ (LacksLabel s 2 told ⊎ LacksRoom s told)

abbrev pub PutsFor : CamlheapDomain → CamlheapDomain → ℕ → ℕ → ℕ → CamlheapReply → CamlheapReply → ℕ → Type 0
PutsFor old new map key item before read told = CallsMap old new (MayPut old.value map key item) (λ (n : ℕ). PutsIn old.value new.value map key item before read n) (λ (n : ℕ). RefusesPut old.value map key item n) before read told
