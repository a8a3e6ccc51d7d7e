-- A cache in a heap: a plain block whose fields hold 0 or leaves, ephemerons of one key.
use Rattle.std.specs.Prelude.{◌≡◌, ◌≢◌, ◌<◌, ◌≤◌, ℕ, false, true, List, [], ◌∷◌, ◌++◌, length, map, slice_index_or, pos, Option, Some, None}
use Rattle.model_core.specs.declared.label.Label.{Label}
use Rattle.model_core.specs.declared.entry.Entry.{Entry}
use Rattle.model_core.specs.declared.graph.Value.{Value}
use Rattle.model_core.specs.declared.graph.Value.TheVariants.{Int, Block, Nothing}
use Rattle.model_core.specs.declared.graph.Node.{Node}
use Rattle.model_core.specs.declared.graph.Node.TheVariants.{Plain, Ephe}
use Rattle.model_core.specs.declared.state.Sizes.{Sizes}
use Rattle.model_core.specs.Graph.{Graph, node_at}
use Rattle.model_core.specs.Entries.{next}
use Rattle.model_core.specs.History.{IsPrefix, is_entry_of}
use Rattle.weak_laws.specs.Tables.Structures.{Binding}
use Rattle.weak_laws.specs.Tables.Thinning.{state_of}
use Rattle.weak_laws.specs.Tables.Stages.{graph_of}
use Rattle.weak_laws.specs.Maps.Tries.{inside, is_leaf}
use Rattle.weak_laws.specs.Maps.Steps.{SparesLeaves, WasUnreached}
use Rattle.weak_cache.specs.Uses.{AreOnce}

-- registers that the calls on a cache don't use
abbrev pub IsBeside : ℕ → Type 0
IsBeside i = (i ≢ 9) × (i ≢ 10) × (i ≢ 11) × (i ≢ 12) × (i ≢ 13)

-- what a leaf has
abbrev pub slot_in : Option Node → Option Binding
slot_in (Some (Ephe (Some k ∷ []) datum)) = Some (k, datum)
slot_in _ = None

abbrev pub slot_of : Graph → Value → Option Binding
slot_of g (Block l) = slot_in (node_at g l)
slot_of g v = None

abbrev pub fields_or_none : Option (List Value) → List Value
fields_or_none (Some fields) = fields
fields_or_none None = []

-- what a cache has after a history, in the order of use
abbrev pub slots_after : Sizes → List Entry → Label → List (Option Binding)
slots_after z h c = map (slot_of (graph_of z h)) (fields_or_none (inside (graph_of z h) (Block c)))

-- what a field of a cache may hold
abbrev pub IsUse : Graph → Value → Type 0
IsUse g (Int a) = a ≡ pos 0
IsUse g (Block l) = is_leaf (node_at g l)
IsUse g Nothing = ⊥

-- a cache of so many slots, in which each key has one at most
pub record IsCache (g : Graph) (c : Label) (size : ℕ) : Type 0 where
  pub some : 1 ≤ size
  pub tag : ℕ
  pub fields : List Value
  pub node : node_at g c ≡ Some (Plain tag fields)
  pub many : length fields ≡ size
  pub uses : (i : ℕ) → i < size → IsUse g (slice_index_or fields i Nothing)
  pub once : AreOnce (map (slot_of g) fields)

-- an entry behind a front leaves the block of a cache as it is, and each leaf that it had, but for keys that are outside reach
pub record SparesCache (z : Sizes) (c : Label) (front : List Entry) (e : Entry) : Type 0 where
  pub block : (tag : ℕ) (fields : List Value) → node_at (graph_of z front) c ≡ Some (Plain tag fields) → node_at (next (state_of z front) e).graph c ≡ Some (Plain tag fields)
  pub leaves : SparesLeaves z c front e

-- so does each that isn't of domain d: no other domain uses the cache
abbrev pub OthersSpare : Sizes → Label → ℕ → List Entry → List Entry → Type 0
OthersSpare z c d old new = (front : List Entry) (e : Entry) → IsPrefix old front → IsPrefix (front ++ e ∷ []) new → is_entry_of d e ≡ false → SparesCache z c front e

-- a label that was outside reach at some front, and isn't the key in hand
abbrev pub Gone : Sizes → Label → List Entry → List Entry → Label → Type 0
Gone z k old new l = WasUnreached z old new l × (l ≢ k)

-- from one front to a later one, entries of domain d write no block that was there at the first, but that of a cache
abbrev pub OwnSpare : Sizes → Label → ℕ → List Entry → List Entry → Type 0
OwnSpare z c d old new = (front : List Entry) (e : Entry) → IsPrefix old front → IsPrefix (front ++ e ∷ []) new → is_entry_of d e ≡ true
    → (l : Label) (n : Node) → node_at (graph_of z old) l ≡ Some n → l ≢ c → node_at (graph_of z (front ++ e ∷ [])) l ≡ node_at (graph_of z front) l
