-- How the heap stands for a state of the machine: registers 1 to 5 hold its keys, register 6 the table or the map and register 7 the weak array.
use Rattle.std.specs.Prelude.{◌≡◌, ◌⊎◌, ℕ, ◌≤◌, IsTrue, List, [], ◌∷◌, length, pos, Some}
use Rattle.model_core.specs.declared.label.Label.{Label}
use Rattle.model_core.specs.declared.entry.Entry.{Entry}
use Rattle.model_core.specs.declared.graph.Value.TheVariants.{Int, Block, Nothing}
use Rattle.model_core.specs.declared.graph.Node.{Node}
use Rattle.model_core.specs.declared.graph.Node.TheVariants.{Plain}
use Rattle.model_core.specs.declared.state.Sizes.{Sizes}
use Rattle.model_core.specs.Graph.{has_label, node_at}
use Rattle.model_core.specs.Commands.{key_value}
use Rattle.weak_laws.specs.Tables.Structures.{Binding, keys_of, IsWeakArray, slot_keys, Apart}
use Rattle.weak_laws.specs.Tables.Stages.{graph_of, held_in}
use Rattle.weak_tables.specs.Held.{AllHave, IsBare}
use Rattle.table_text.specs.declared.version.Version.{Version}
use Rattle.table_run.specs.Keepers.Keepers.{Shape, IsKeeper, kept_bindings, kept_labels}
use Rattle.table_text.specs.Machine.Machine.{TableState, key_in, Holds}

-- where the table or the map and the weak array are: the same for all lines of a text
pub record Places : Type 0 where
  pub keeper : Label
  pub array : Label
  pub slots : List Label

-- after this history registers 1 to 5 hold what the machine's do, its bindings are those of the table or the map, and its slots the keys of the weak array
pub record Shown (version : Version) (z : Sizes) (p : Places) (s : TableState) (h : List Entry) : Type 0 where
  pub shape : Shape version
  pub keeper : IsKeeper version shape z.domains (graph_of z h) p.keeper
  pub array : IsWeakArray (graph_of z h) p.array p.slots
  pub registers : (r : ℕ) → 1 ≤ r → r ≤ 5 → held_in z h r ≡ key_value (key_in s r)
  pub bindings_are : kept_bindings version shape (graph_of z h) p.keeper ≡ s.bindings
  pub slots_are : slot_keys (graph_of z h) p.slots ≡ s.slots

-- the block that a key is
abbrev pub key_node : Node
key_node = Plain 0 (Int (pos 0) ∷ [])

-- a label that is somewhere in the machine
abbrev pub IsKnown : TableState → Label → Type 0
IsKnown s k = Holds s.registers k ⊎ IsTrue (has_label (keys_of s.bindings) k) ⊎ Holds s.slots k

-- each datum is an integer
abbrev pub AreInts : List Binding → Type 0
AreInts [] = Unit {0}
AreInts ((k, Int v) ∷ bs) = AreInts bs
AreInts ((k, Block l) ∷ bs) = ⊥
AreInts ((k, Nothing) ∷ bs) = ⊥

-- and all else that the next line needs: the two structures are held and apart, each key is a block of its own, the ephemerons of slots have no datum, and registers 8 to 15 hold nothing
pub record Stands (version : Version) (z : Sizes) (p : Places) (s : TableState) (h : List Entry) : Type 0 where
  pub shown : Shown version z p s h
  pub five : length s.registers ≡ 5
  pub sixteen : length p.slots ≡ 16
  pub keeper_held : held_in z h 6 ≡ Block p.keeper
  pub array_held : held_in z h 7 ≡ Block p.array
  pub apart : Apart (p.array ∷ p.slots) (kept_labels version shown.shape (graph_of z h) p.keeper)
  pub keys : (k : Label) → IsKnown s k → node_at (graph_of z h) k ≡ Some key_node
  pub ints : AreInts s.bindings
  pub bare : AllHave IsBare (graph_of z h) p.slots
  pub others : (r : ℕ) → 8 ≤ r → held_in z h r ≡ Nothing

-- the heap stands for a state of the machine
pub record IsStanding (version : Version) (z : Sizes) (h : List Entry) : Type 0 where
  pub places : Places
  pub state : TableState
  pub stands : Stands version z places state h
