-- Where a call stands between two of its commands.
use Rattle.std.specs.Prelude.{◌≡◌, ◌⊎◌, ℕ, ◌%◌, ◌<◌, ◌≤◌, false, length, IsTrue, List, [], ◌∷◌, ◌++◌, map, replicate, pos, slice_index_or, Option, Some, None}
use Rattle.model_core.specs.declared.label.Label.{Label}
use Rattle.model_core.specs.declared.entry.Entry.{Entry}
use Rattle.model_core.specs.declared.graph.Value.{Value}
use Rattle.model_core.specs.declared.graph.Value.TheVariants.{Int, Block, Nothing}
use Rattle.model_core.specs.declared.graph.Node.TheVariants.{Plain, Ephe}
use Rattle.model_core.specs.declared.state.Sizes.{Sizes}
use Rattle.model_core.specs.Graph.{Graph, has_label, has_no_repeats, node_at}
use Rattle.model_core.specs.Commands.{is_full_value}
use Rattle.model_core.specs.Domains.{register}
use Rattle.model_core.specs.History.{IsPrefix, Legal}
use Rattle.weak_laws.specs.Tables.Structures.{Cell, bucket_count, bindings, chain_bindings, datum_at, head_of, table_labels, IsTable}
use Rattle.weak_laws.specs.Tables.Thinning.{Changes, WasOutside, state_of}

-- the graph that a history leaves
abbrev pub graph_of : Sizes → List Entry → Graph
graph_of z h = (state_of z h).graph

-- what a register of the one domain holds then
abbrev pub held_in : Sizes → List Entry → ℕ → Value
held_in z h r = register (state_of z h) 0 r

-- a call has come from the first front to this one. All blocks but these are as they were, or emptied by the collector where their key was outside reach
pub record Goes (z : Sizes) (first now : List Entry) (own : List Label) : Type 0 where
  pub legal : Legal z now
  pub grows : IsPrefix first now
  pub changes : Changes (WasOutside z first now) own (graph_of z first) (graph_of z now)

-- a search for a key has passed these cells of a bucket, none of which binds it, and register 9 holds what leads to the rest
pub record Searching (z : Sizes) (h : List Entry) (root : Label) (chains : List (List Cell)) (k : Label) (i : ℕ) (done rest : List Cell) : Type 0 where
  pub table : IsTable (graph_of z h) root chains
  pub below : i < bucket_count
  pub split : slice_index_or chains i [] ≡ done ++ rest
  pub here : held_in z h 9 ≡ head_of rest
  pub missing : datum_at (chain_bindings (graph_of z h) done) k ≡ None

-- whether a key is empty or this one
abbrev pub IsFor : Label → Option Label → Type 0
IsFor k key = (key ≡ None) ⊎ (key ≡ Some k)

-- no datum is missing where there is a key
abbrev pub IsFilled : Option Label → Value → Type 0
IsFilled None datum = Unit {0}
IsFilled (Some k) datum = IsTrue (is_full_value datum)

-- a cell of the bucket of a key, which alone may bind it, with this key and datum
pub record Holding (z : Sizes) (h : List Entry) (root : Label) (chains : List (List Cell)) (k : Label) (i : ℕ) (done : List Cell) (c : Cell) (rest : List Cell) (key : Option Label) (datum : Value) : Type 0 where
  pub table : IsTable (graph_of z h) root chains
  pub below : i < bucket_count
  pub placed : k.serial % bucket_count ≡ i
  pub split : slice_index_or chains i [] ≡ done ++ c ∷ rest
  pub at : node_at (graph_of z h) c.ephe ≡ Some (Ephe (key ∷ []) datum)
  pub mine : IsFor k key
  pub before : datum_at (chain_bindings (graph_of z h) done) k ≡ None
  pub behind : datum_at (chain_bindings (graph_of z h) rest) k ≡ None

-- a cell in the making: an ephemeron without a key and a node of two fields, neither of which is the table's
pub record Linking (z : Sizes) (h : List Entry) (root : Label) (chains : List (List Cell)) (c : Cell) (a b : Value) : Type 0 where
  pub table : IsTable (graph_of z h) root chains
  pub ephe : node_at (graph_of z h) c.ephe ≡ Some (Ephe (None ∷ []) Nothing)
  pub node : node_at (graph_of z h) c.node ≡ Some (Plain 0 (a ∷ b ∷ []))
  pub fresh_ephe : has_label (table_labels root chains) c.ephe ≡ false
  pub fresh_node : has_label (table_labels root chains) c.node ≡ false

-- each number of bindings between that of a later front and that of an earlier one is the number at some front between, up to which and from which on no block was written
abbrev pub Declines : Sizes → List Entry → List Entry → List (List Cell) → Type 0
Declines z first now chains = (n : ℕ) → length (bindings (graph_of z now) chains) ≤ n → n ≤ length (bindings (graph_of z first) chains)
    → (front : List Entry) × Goes z first front [] × Goes z front now [] × (length (bindings (graph_of z front) chains) ≡ n)

-- a walk through a bucket has passed these cells, and register 9 holds what leads to the rest
pub record Walking (z : Sizes) (h : List Entry) (root : Label) (chains : List (List Cell)) (i : ℕ) (done rest : List Cell) : Type 0 where
  pub table : IsTable (graph_of z h) root chains
  pub below : i < bucket_count
  pub split : slice_index_or chains i [] ≡ done ++ rest
  pub here : held_in z h 9 ≡ head_of rest

-- a weak array in the making, all of whose blocks are new since a front: its first fields are these ephemerons without a key, and so many others are 0
pub record Filling (z : Sizes) (first now : List Entry) (root : Label) (made : List Label) (left : ℕ) : Type 0 where
  pub node : node_at (graph_of z now) root ≡ Some (Plain 0 (map Block made ++ replicate left (Int (pos 0))))
  pub empty : (e : Label) → IsTrue (has_label made e) → node_at (graph_of z now) e ≡ Some (Ephe (None ∷ []) Nothing)
  pub once : IsTrue (has_no_repeats (root ∷ made))
  pub fresh : (l : Label) → IsTrue (has_label (root ∷ made) l) → node_at (graph_of z first) l ≡ None
