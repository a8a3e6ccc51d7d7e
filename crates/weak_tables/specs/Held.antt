-- What a call leaves in registers, and the table or weak array that it was called on.
use Rattle.std.specs.Prelude.{◌≡◌, ◌≢◌, ℕ, IsTrue, List, [], ◌∷◌, slice_set, Option, Some, None}
use Rattle.model_core.specs.declared.label.Label.{Label}
use Rattle.model_core.specs.declared.entry.Entry.{Entry}
use Rattle.model_core.specs.declared.graph.Value.{Value}
use Rattle.model_core.specs.declared.graph.Value.TheVariants.{Block, Nothing}
use Rattle.model_core.specs.declared.graph.Node.{Node}
use Rattle.model_core.specs.declared.graph.Node.TheVariants.{Plain, Raw, Ephe}
use Rattle.model_core.specs.declared.state.Mode.TheVariants.{Open}
use Rattle.model_core.specs.declared.state.Sizes.{Sizes}
use Rattle.model_core.specs.Graph.{Graph, has_label, node_at}
use Rattle.weak_laws.specs.Tables.Structures.{Cell, bindings, IsTable, IsWeakArray, slot_keys}
use Rattle.weak_laws.specs.Tables.Thinning.{ThinnedBy, EmptiedBy, WasOutside, state_of}
use Rattle.weak_laws.specs.Tables.Performing.{After, registers_of}
use Rattle.weak_laws.specs.Tables.Stages.{Goes, graph_of, held_in}

-- the registers that the calls use between are 8, 9 and 10. All others are as they were
abbrev pub KeepsOthers : Sizes → List Entry → List Entry → Type 0
KeepsOthers z old new = (r : ℕ) → r ≢ 8 → r ≢ 9 → r ≢ 10 → held_in z new r ≡ held_in z old r

-- these hold nothing, and no collection is under way
pub record IsClean (z : Sizes) (h : List Entry) : Type 0 where
  pub eight : held_in z h 8 ≡ Nothing
  pub nine : held_in z h 9 ≡ Nothing
  pub ten : held_in z h 10 ≡ Nothing
  pub calm : (state_of z h).mode ≡ Open

-- registers 8, 9 and 10 were emptied, one after the other
pub record Cleared (z : Sizes) (old new : List Entry) : Type 0 where
  pub first : List Entry
  pub second : List Entry
  pub eight : After z old first [] (slice_set (registers_of z old) 8 Nothing)
  pub nine : After z first second [] (slice_set (registers_of z first) 9 Nothing)
  pub ten : After z second new [] (slice_set (registers_of z second) 10 Nothing)
  pub calm : (state_of z new).mode ≡ Open

-- a register holds a table
pub record HoldsTable (z : Sizes) (h : List Entry) (r : ℕ) : Type 0 where
  pub root : Label
  pub chains : List (List Cell)
  pub held : held_in z h r ≡ Block root
  pub table : IsTable (graph_of z h) root chains

-- whatever table a register holds
abbrev pub OfTable : Sizes → List Entry → ℕ → (Label → List (List Cell) → Type 0) → Type 0
OfTable z h r Is = (root : Label) (chains : List (List Cell)) → held_in z h r ≡ Block root → IsTable (graph_of z h) root chains → Is root chains

-- a call that has changed no block of its own so far, and has thinned a table
pub record Reads (z : Sizes) (first now : List Entry) (root : Label) (chains : List (List Cell)) : Type 0 where
  pub goes : Goes z first now []
  pub table : IsTable (graph_of z now) root chains
  pub thinned : ThinnedBy (WasOutside z first now) (bindings (graph_of z first) chains) (bindings (graph_of z now) chains)

-- a register holds a weak array
pub record HoldsArray (z : Sizes) (h : List Entry) (r : ℕ) : Type 0 where
  pub root : Label
  pub slots : List Label
  pub held : held_in z h r ≡ Block root
  pub array : IsWeakArray (graph_of z h) root slots

-- whatever weak array a register holds
abbrev pub OfArray : Sizes → List Entry → ℕ → (Label → List Label → Type 0) → Type 0
OfArray z h r Is = (root : Label) (slots : List Label) → held_in z h r ≡ Block root → IsWeakArray (graph_of z h) root slots → Is root slots

-- a call that has changed no block of its own so far, and has thinned a weak array
pub record ReadsArray (z : Sizes) (first now : List Entry) (root : Label) (slots : List Label) : Type 0 where
  pub goes : Goes z first now []
  pub array : IsWeakArray (graph_of z now) root slots
  pub emptied : EmptiedBy (WasOutside z first now) (slot_keys (graph_of z first) slots) (slot_keys (graph_of z now) slots)

-- no datum where there is no key
abbrev pub IsOwned : Option Label → Value → Type 0
IsOwned None datum = datum ≡ Nothing
IsOwned (Some k) datum = Unit {0}

-- no ephemeron, or one of one key, which has no datum where it has no key
abbrev pub IsTidy : Node → Type 0
IsTidy (Plain tag fields) = Unit {0}
IsTidy (Raw tag fields) = Unit {0}
IsTidy (Ephe (key ∷ []) datum) = IsOwned key datum
IsTidy (Ephe _ datum) = ⊥

-- an ephemeron of one key without a datum
abbrev pub IsBare : Node → Type 0
IsBare (Ephe (key ∷ []) datum) = datum ≡ Nothing
IsBare _ = ⊥

-- a label is that of such a block
pub record Has (Is : Node → Type 0) (g : Graph) (l : Label) : Type 0 where
  pub node : Node
  pub at : node_at g l ≡ Some node
  pub is : Is node

-- and so is each of these
abbrev pub AllHave : (Node → Type 0) → Graph → List Label → Type 0
AllHave Is g ls = (l : Label) → IsTrue (has_label ls l) → Has Is g l
