-- What the calls on a cache answer and leave.
use Rattle.std.specs.Prelude.{◌≡◌, ◌≢◌, ◌⊎◌, ◌≤◌, ℕ, List, [], ◌∷◌, ◌++◌, replicate, Option, None}
use Rattle.model_core.specs.declared.label.Label.{Label}
use Rattle.model_core.specs.declared.entry.Entry.{Entry}
use Rattle.model_core.specs.declared.graph.Value.{Value}
use Rattle.model_core.specs.declared.graph.Value.TheVariants.{Int, Block, Nothing}
use Rattle.model_core.specs.declared.reply.Reply.{Reply}
use Rattle.model_core.specs.declared.reply.Reply.TheVariants as reply
use Rattle.model_core.specs.declared.state.Sizes.{Sizes}
use Rattle.model_core.specs.Graph.{node_at}
use Rattle.model_core.specs.Commands.{new_plain, shown}
use Rattle.model_core.specs.History.{IsPrefix}
use Rattle.weak_laws.specs.Tables.Structures.{Binding}
use Rattle.weak_laws.specs.Tables.Stages.{graph_of}
use Rattle.weak_laws.specs.Maps.Calls.{value_of}
use Rattle.weak_maps.specs.Beside.{held_by}
use Rattle.weak_maps.specs.Returns.{MakesNone}
use Rattle.weak_cache.specs.Uses.{SlotsLeft, cached_in, put_first, taken, touched}
use Rattle.weak_cache.specs.Caches.{Gone, IsBeside, IsCache, OthersSpare, OwnSpare, slots_after}

-- a cache is one still, and has these slots, but for keys that were outside reach. No other block was written that was there
pub record LeavesCache (z : Sizes) (d : ℕ) (k : Label) (old new : List Entry) (c : Label) (size : ℕ) (slots : List (Option Binding)) : Type 0 where
  pub cache : IsCache (graph_of z new) c size
  pub left : SlotsLeft (Gone z k old new) slots (slots_after z new c)
  pub spared : OwnSpare z c d old new

-- registers 9 to 13 hold nothing, and the others but for one what they held
abbrev pub LeavesRegisters : Sizes → ℕ → List Entry → List Entry → ℕ → Type 0
LeavesRegisters z d old new but = ((i : ℕ) → 9 ≤ i → i ≤ 13 → held_by z d new i ≡ Nothing) × ((i : ℕ) → IsBeside i → i ≢ but → held_by z d new i ≡ held_by z d old i)

-- `cache_get`, by what the register of the key holds: `type` exactly where it is no label, else the value that the cache had of the key when the call began, or `none`. The key is the last used then
abbrev pub GetReturns : Sizes → ℕ → List Entry → List Entry → Label → ℕ → ℕ → Value → Reply → Type 0
GetReturns z d old new c size dst (Block k) r = (r ≡ shown (value_of (cached_in k (slots_after z old c)))) × (shown (held_by z d new dst) ≡ r)
    × LeavesCache z d k old new c size (touched k (cached_in k (slots_after z old c)) (slots_after z old c)) × LeavesRegisters z d old new dst
GetReturns z d old new c size dst key r = (r ≡ reply.BadType) × (new ≡ old)

-- `cache_take`, by what the register of the key holds: `type` exactly where it is no label, else the value that the cache had of the key when the call began, or `none`. The cache has the key no more then
abbrev pub TakeReturns : Sizes → ℕ → List Entry → List Entry → Label → ℕ → ℕ → Value → Reply → Type 0
TakeReturns z d old new c size dst (Block k) r = (r ≡ shown (value_of (cached_in k (slots_after z old c)))) × (shown (held_by z d new dst) ≡ r)
    × LeavesCache z d k old new c size (taken k (slots_after z old c)) × LeavesRegisters z d old new dst
TakeReturns z d old new c size dst key r = (r ≡ reply.BadType) × (new ≡ old)

-- `cache_put` of a value: done, and it is the last used, or `full`, and the cache has what it had
abbrev pub PutsOrFull : Sizes → ℕ → List Entry → List Entry → Label → ℕ → Label → Value → Reply → Type 0
PutsOrFull z d old new c size k v r = LeavesRegisters z d old new 9
    × (((r ≡ reply.Done) × LeavesCache z d k old new c size (put_first k v (slots_after z old c)))
    ⊎ ((r ≡ reply.Full) × LeavesCache z d k old new c size (slots_after z old c)))

-- `cache_put`, by what the registers of the key and of the value hold: `type` exactly where the first is no label or the second nothing
abbrev pub PutReturns : Sizes → ℕ → List Entry → List Entry → Label → ℕ → Value → Value → Reply → Type 0
PutReturns z d old new c size (Block k) (Int i) r = PutsOrFull z d old new c size k (Int i) r
PutReturns z d old new c size (Block k) (Block l) r = PutsOrFull z d old new c size k (Block l) r
PutReturns z d old new c size key v r = (r ≡ reply.BadType) × (new ≡ old)

-- `cache_make`: a new cache that has nothing
pub record MakesCache (z : Sizes) (d : ℕ) (old new : List Entry) (dst size : ℕ) (c : Label) : Type 0 where
  pub cache : IsCache (graph_of z new) c size
  pub empty : slots_after z new c ≡ replicate size None
  pub holds : held_by z d new dst ≡ Block c
  pub keeps : (i : ℕ) → i ≢ dst → held_by z d new i ≡ held_by z d old i
  pub front : List Entry
  pub since : IsPrefix old front
  pub until : IsPrefix front new
  pub fresh : node_at (graph_of z front) c ≡ None
  pub made : graph_of z new ≡ graph_of z front ++ (c, new_plain 0 size) ∷ []

-- or the allocation was refused: the domain changed nothing
abbrev pub MakeReturns : Sizes → ℕ → List Entry → List Entry → ℕ → ℕ → Reply → Type 0
MakeReturns z d old new dst size r = ((c : Label) × (r ≡ reply.Block c) × MakesCache z d old new dst size c) ⊎ ((r ≡ reply.Full) × MakesNone z d old new)

-- what a call answers and leaves of whatever cache of so many slots stands in a register when it begins, if others spare it until the call ends
abbrev pub GetsAt : Sizes → ℕ → List Entry → List Entry → ℕ → ℕ → ℕ → ℕ → Reply → Type 0
GetsAt z d old new dst cache size key r = (c : Label) → held_by z d old cache ≡ Block c → IsCache (graph_of z old) c size → OthersSpare z c d old new → GetReturns z d old new c size dst (held_by z d old key) r

abbrev pub TakesAt : Sizes → ℕ → List Entry → List Entry → ℕ → ℕ → ℕ → ℕ → Reply → Type 0
TakesAt z d old new dst cache size key r = (c : Label) → held_by z d old cache ≡ Block c → IsCache (graph_of z old) c size → OthersSpare z c d old new → TakeReturns z d old new c size dst (held_by z d old key) r

abbrev pub PutsAt : Sizes → ℕ → List Entry → List Entry → ℕ → ℕ → ℕ → ℕ → Reply → Type 0
PutsAt z d old new cache size key item r = (c : Label) → held_by z d old cache ≡ Block c → IsCache (graph_of z old) c size → OthersSpare z c d old new
    → PutReturns z d old new c size (held_by z d old key) (held_by z d old item) r
