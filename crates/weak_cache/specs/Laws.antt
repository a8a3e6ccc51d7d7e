-- Laws of caches, in the words in which a reader would ask for them.
use Rattle.std.specs.Prelude.{◌≡◌, ◌≢◌, ◌⊎◌, ℕ, ◌+◌, ◌<◌, ◌≤◌, IsTrue, List, [], ◌∷◌, length, slice_index_or, Option, Some, None}
use Rattle.model_core.specs.declared.label.Label.{Label}
use Rattle.model_core.specs.declared.entry.Entry.{Entry}
use Rattle.model_core.specs.declared.graph.Value.{Value}
use Rattle.model_core.specs.declared.state.Sizes.{Sizes}
use Rattle.model_core.specs.declared.graph.Value.TheVariants.{Block, Nothing}
use Rattle.model_core.specs.Graph.{Graph, has_label}
use Rattle.model_core.specs.History.{IsPrefix, Legal}
use Rattle.weak_laws.specs.Tables.Structures.{Binding}
use Rattle.weak_laws.specs.Tables.Stages.{graph_of}
use Rattle.weak_laws.specs.Tables.Performing.{After}
use Rattle.weak_laws.specs.Maps.Tries.{inside}
use Rattle.weak_laws.specs.Maps.Steps.{WasUnreached}
use Rattle.weak_cache.specs.Uses.{AreOnce, SlotsLeft, age, cached_in, put_first, taken}
use Rattle.weak_cache.specs.Caches.{Gone, IsCache, OthersSpare, fields_or_none, slots_after}
use Rattle.weak_cache.specs.Calls.{LeavesCache}

-- a cache has no more values than slots
abbrev pub CacheIsBounded : Type 0
CacheIsBounded = (z : Sizes) (h : List Entry) (c : Label) (size : ℕ) → IsCache (graph_of z h) c size → length (slots_after z h c) ≡ size

-- what is found of a key is the value of a slot of that key
abbrev pub NoOtherIsFound : Type 0
NoOtherIsFound = (k : Label) (v : Value) (ss : List (Option Binding)) → cached_in k ss ≡ Some v → (i : ℕ) × (i < length ss) × (slice_index_or ss i None ≡ Some (k, v))

-- what was put is found, and stands first
abbrev pub PutIsFound : Type 0
PutIsFound = (k : Label) (v : Value) (ss : List (Option Binding)) → 0 < length ss → (cached_in k (put_first k v ss) ≡ Some v) × (age k (put_first k v ss) ≡ 0)

-- where a key is used, each other goes one slot back at most, and is found still, unless it stood last
abbrev pub OthersGoBack : Type 0
OthersGoBack = (k l : Label) (v w : Value) (ss : List (Option Binding)) → l ≢ k → cached_in l ss ≡ Some w → age l ss + 1 < length ss
    → (cached_in l (put_first k v ss) ≡ Some w) × (age l (put_first k v ss) ≤ age l ss + 1)

-- one before which the key stood stays where it is: a key counts once, however often it is used
abbrev pub OthersStay : Type 0
OthersStay = (k l : Label) (v : Value) (ss : List (Option Binding)) → l ≢ k → age k ss < age l ss
    → (cached_in l (put_first k v ss) ≡ cached_in l ss) × (age l (put_first k v ss) ≡ age l ss)

-- to use what is found changes no value
abbrev pub GetKeeps : Type 0
GetKeeps = (k l : Label) (v : Value) (ss : List (Option Binding)) → cached_in k ss ≡ Some v → cached_in l (put_first k v ss) ≡ cached_in l ss

-- where slots lose keys that are gone, each other key is found as before, and stands where it stood
abbrev pub LossKeepsOthers : Type 0
LossKeepsOthers = (z : Sizes) (k : Label) (old new : List Entry) (ss ts : List (Option Binding)) → SlotsLeft (Gone z k old new) ss ts
    → (l : Label) → (Gone z k old new l → ⊥) → (cached_in l ts ≡ cached_in l ss) × (age l ts ≡ age l ss)

-- uses of keys, the first first: each puts a key first, and then slots may lose keys, which are used no more
pub record Use : Type 0 where
  pub key : Label
  pub value : Value
  pub lost : List Label

abbrev pub IsAmong : List Label → Label → Type 0
IsAmong names l = IsTrue (has_label names l)

abbrev pub NoneUses : List Label → List Use → Type 0
NoneUses lost [] = Unit {0}
NoneUses lost (u ∷ us) = (IsAmong lost u.key → ⊥) × NoneUses lost us

abbrev pub Used : List Use → List (Option Binding) → List (Option Binding) → Type 0
Used [] ss ts = ts ≡ ss
Used (u ∷ us) ss ts = (ms : List (Option Binding)) × SlotsLeft (IsAmong u.lost) (put_first u.key u.value ss) ms × NoneUses u.lost us × Used us ms ts

-- each is of one of these keys, and none is of another key, nor loses that
abbrev pub AreOf : List Label → Label → List Use → Type 0
AreOf names k [] = Unit {0}
AreOf names k (u ∷ us) = IsAmong names u.key × (u.key ≢ k) × (IsAmong u.lost k → ⊥) × AreOf names k us

-- what was put of a key is found as long as fewer different keys were used since than the cache has slots behind the first, and the key isn't lost
abbrev pub UsedLastIsFound : Type 0
UsedLastIsFound = (k : Label) (v : Value) (names : List Label) (us : List Use) (ss ts : List (Option Binding)) → Used us (put_first k v ss) ts → AreOf names k us → length names < length ss → cached_in k ts ≡ Some v

-- in a heap of one domain nobody else uses a cache
abbrev pub AloneSpares : Type 0
AloneSpares = (z : Sizes) (c : Label) (old new : List Entry) → z.domains ≡ 1 → Legal z new → OthersSpare z c 0 old new

-- what a call on a cache did: a put put a value, a lookup found it, a take took the key out, or a lookup found none or a put was refused
pub data Deed : Type 0 where
  Put : Value → Deed
  Found : Value → Deed
  Taken : Deed
  Idle : Deed

-- a call, from a front to a later one, and its key
pub record Call : Type 0 where
  pub key : Label
  pub deed : Deed
  pub old : List Entry
  pub new : List Entry

-- what it makes of slots
abbrev pub done_by : Deed → Label → List (Option Binding) → List (Option Binding)
done_by (Put v) k ss = put_first k v ss
done_by (Found v) k ss = put_first k v ss
done_by Taken k ss = taken k ss
done_by Idle k ss = ss

-- and that a lookup finds what there is
abbrev pub IsThere : Deed → Label → List (Option Binding) → Type 0
IsThere (Found v) k ss = cached_in k ss ≡ Some v
IsThere deed k ss = Unit {0}

-- a call leaves of a cache what its clause says
abbrev pub DoesCall : Sizes → ℕ → Label → ℕ → Call → Type 0
DoesCall z d c size x = IsPrefix x.old x.new × IsThere x.deed x.key (slots_after z x.old c) × LeavesCache z d x.key x.old x.new c size (done_by x.deed x.key (slots_after z x.old c))

-- from one front to a later one a cache has lost only what keys had that were outside reach
abbrev pub LosesOnly : Sizes → Label → List Entry → List Entry → Type 0
LosesOnly z c old new = IsPrefix old new × SlotsLeft (WasUnreached z old new) (slots_after z old c) (slots_after z new c)

-- a block is neither a cache nor in a field of it
abbrev pub IsApart : Graph → Label → Label → Type 0
IsApart g c l = (l ≢ c) × ((i : ℕ) → slice_index_or (fields_or_none (inside g (Block c))) i Nothing ≢ Block l)

-- in a heap of one domain a command that changes only blocks apart from a cache leaves it one, and has it lose only that
abbrev pub OtherCommandsSpare : Type 0
OtherCommandsSpare = (z : Sizes) (old new : List Entry) (own : List Label) (registers : List Value) (c : Label) (size : ℕ) → After z old new own registers → ((l : Label) → IsTrue (has_label own l) → IsApart (graph_of z old) c l)
    → IsCache (graph_of z old) c size → IsCache (graph_of z new) c size × LosesOnly z c old new

-- calls of domain d on a cache, one after another, between which the cache loses only that
abbrev pub CallsOn : Sizes → ℕ → Label → ℕ → List Call → List Entry → List Entry → Type 0
CallsOn z d c size [] old new = LosesOnly z c old new
CallsOn z d c size (x ∷ xs) old new = LosesOnly z c old x.old × DoesCall z d c size x × CallsOn z d c size xs x.new new

-- a call that uses a key uses one of these, and none uses or takes another
abbrev pub IsUseOf : List Label → Label → Label → Deed → Type 0
IsUseOf names k key (Put v) = IsAmong names key × (key ≢ k)
IsUseOf names k key (Found v) = IsAmong names key × (key ≢ k)
IsUseOf names k key Taken = key ≢ k
IsUseOf names k key Idle = Unit {0}

abbrev pub UsesOf : List Label → Label → List Call → Type 0
UsesOf names k [] = Unit {0}
UsesOf names k (x ∷ xs) = IsUseOf names k x.key x.deed × UsesOf names k xs

-- over whatever calls, what a put put of a key, or a lookup found, is found as long as fewer different keys were used since than there are slots, the key wasn't taken out, and neither it nor one of those was outside reach meanwhile
abbrev pub UsedInCallsIsFound : Type 0
UsedInCallsIsFound = (z : Sizes) (d : ℕ) (c : Label) (size : ℕ) (k : Label) (v : Value) (names : List Label) (calls : List Call) (before first last : List Entry) → IsPrefix before first
    → LeavesCache z d k before first c size (put_first k v (slots_after z before c)) → CallsOn z d c size calls first last → UsesOf names k calls → length names < size
    → ((l : Label) → (l ≡ k) ⊎ IsAmong names l → WasUnreached z before last l → ⊥) → cached_in k (slots_after z last c) ≡ Some v

-- what was taken out isn't found
abbrev pub TakenIsNotFound : Type 0
TakenIsNotFound = (k : Label) (ss : List (Option Binding)) → AreOnce ss → cached_in k (taken k ss) ≡ None

-- no call puts a value of a key
abbrev pub IsNoPutOf : Label → Label → Deed → Type 0
IsNoPutOf k key (Put v) = key ≢ k
IsNoPutOf k key deed = Unit {0}

abbrev pub NonePuts : Label → List Call → Type 0
NonePuts k [] = Unit {0}
NonePuts k (x ∷ xs) = IsNoPutOf k x.key x.deed × NonePuts k xs

-- over whatever calls, what was taken out isn't found until it is put again
abbrev pub TakenInCallsIsNotFound : Type 0
TakenInCallsIsNotFound = (z : Sizes) (d : ℕ) (c : Label) (size : ℕ) (k : Label) (calls : List Call) (before first last : List Entry) → IsCache (graph_of z before) c size
    → LeavesCache z d k before first c size (taken k (slots_after z before c)) → CallsOn z d c size calls first last → NonePuts k calls → cached_in k (slots_after z last c) ≡ None

-- where a key is taken out, each other key has what it had, and no more stand before it
abbrev pub TakingKeepsOthers : Type 0
TakingKeepsOthers = (k l : Label) (ss : List (Option Binding)) → l ≢ k → (cached_in l (taken k ss) ≡ cached_in l ss) × (age l (taken k ss) ≤ age l ss)
