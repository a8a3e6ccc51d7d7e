-- The slots: keys of three ephemerons, which registers of each domain hold.
use Rattle.std.specs.Prelude.{◌≡◌, ◌⊎◌, ℕ, ◌+◌, ◌/◌, ◌%◌, true, List, [], ◌∷◌, ◌++◌, length, slice_get, slice_index_or, slice_set, Option, Some}
use Rattle.model_core.specs.declared.label.Label.{Label}
use Rattle.model_core.specs.declared.entry.Entry.{Entry}
use Rattle.model_core.specs.declared.graph.Node.{Node}
use Rattle.model_core.specs.declared.graph.Node.TheVariants.{Ephe}
use Rattle.model_core.specs.declared.graph.Value.{Value}
use Rattle.model_core.specs.declared.graph.Value.TheVariants.{Block}
use Rattle.model_core.specs.declared.state.Sizes.{Sizes}
use Rattle.model_core.specs.Commands.{block_in, key_value, shown}
use Rattle.model_core.specs.Graph.{Graph, node_at, with_node}
use Rattle.model_core.specs.History.{IsPrefix, is_entry_of}
use Rattle.table_text.specs.declared.line.TableLine.{TableLine}
use Rattle.table_text.specs.declared.line.TableLine.TheVariants.{SetWeak}
use Rattle.table_text.specs.declared.machine.reply.LineReply.{LineReply}
use Rattle.table_text.specs.declared.machine.reply.LineReply.TheVariants as reply
use Rattle.table_text.specs.Machine.Said.{said}
use Rattle.weak_laws.specs.Maps.Within.{IsBlockOf}
use Rattle.weak_laws.specs.Tables.Stages.{graph_of}
use Rattle.weak_laws.specs.Tables.Thinning.{state_of}
use Rattle.weak_maps.specs.Beside.{held_by}
use Rattle.weak_maps.specs.Walks.{OwnQuiet}

-- six slots are keys of each; this register holds the ephemeron of a slot
abbrev pub slot_ephe : ℕ → ℕ
slot_ephe s = slice_index_or (7 ∷ 12 ∷ 13 ∷ []) (s / 6) 0

-- and this key of it is the slot: never the first, which stays empty
abbrev pub slot_key : ℕ → ℕ
slot_key s = s % 6 + 1

-- a block is an ephemeron of eight keys
pub record IsEight (g : Graph) (l : Label) : Type 0 where
  pub keys : List (Option Label)
  pub datum : Value
  pub node : node_at g l ≡ Some (Ephe keys datum)
  pub eight : length keys ≡ 8

-- a register holds such a block
pub record HoldsEight (z : Sizes) (d : ℕ) (h : List Entry) (r : ℕ) : Type 0 where
  pub l : Label
  pub held : held_by z d h r ≡ Block l
  pub block : IsEight (graph_of z h) l

-- the registers of the slots hold such blocks
pub record OnSlots (z : Sizes) (d : ℕ) (h : List Entry) : Type 0 where
  pub first : HoldsEight z d h 7
  pub second : HoldsEight z d h 12
  pub third : HoldsEight z d h 13

-- the keys of an ephemeron
abbrev pub keys_in : Option (Label × Node) → List (Option Label)
keys_in (Some (l, Ephe keys datum)) = keys
keys_in _ = []

-- what a slot holds after a history: a key, or none
abbrev pub slot_after : Sizes → ℕ → List Entry → ℕ → Option (Option Label)
slot_after z d h s = slice_get (keys_in (block_in (state_of z h) d (slot_ephe s))) (slot_key s)

-- a slot was set to a key: from the front before, the ephemeron has it as this key, and no other block is changed, nor another key
pub record SlotSet (z : Sizes) (d : ℕ) (old new : List Entry) (s : ℕ) (k : Label) : Type 0 where
  pub front : List Entry
  pub since : IsPrefix old front
  pub until : IsPrefix front new
  pub ephe : HoldsEight z d front (slot_ephe s)
  pub sets : graph_of z new ≡ with_node (graph_of z front) ephe.l (Ephe (slice_set ephe.block.keys (slot_key s) (Some k)) ephe.block.datum)
  pub holds : slot_after z d new s ≡ Some (Some k)

-- by what the register of the key holds: `type` exactly where it is no label, and then no block is changed
abbrev pub SlotSets : Sizes → ℕ → List Entry → List Entry → ℕ → Value → LineReply → Type 0
SlotSets z d old new s (Block k) a = (a ≡ reply.Done) × SlotSet z d old new s k
SlotSets z d old new s v a = (a ≡ reply.BadType) × OwnQuiet z d old new

-- a slot that is read: at a front it held the key that the register holds afterwards, or none
pub record SlotGets (z : Sizes) (d : ℕ) (old new : List Entry) (s r : ℕ) (a : LineReply) : Type 0 where
  pub front : List Entry
  pub since : IsPrefix old front
  pub until : IsPrefix front new
  pub key : Option Label
  pub held : slot_after z d front s ≡ Some key
  pub answers : a ≡ said (shown (key_value key))
  pub holds : held_by z d new r ≡ key_value key

-- an entry sets a key of an ephemeron that a register holds: it is the label that another register holds then, and nothing else of the ephemeron is changed
pub record SetsKey (z : Sizes) (d : ℕ) (front : List Entry) (e : Entry) (ephe index item : ℕ) (l : Label) : Type 0 where
  pub held : held_by z d front ephe ≡ Block l
  pub key : Label
  pub given : held_by z d front item ≡ Block key
  pub keys : List (Option Label)
  pub datum : Value
  pub was : node_at (graph_of z front) l ≡ Some (Ephe keys datum)
  pub sets : node_at (graph_of z (front ++ e ∷ [])) l ≡ Some (Ephe (slice_set keys index (Some key)) datum)

-- how an entry of a line may change a block beside the map: `wset` sets its slot in it, and no other line any
abbrev pub LineSets : Sizes → ℕ → List Entry → Entry → TableLine → Label → Type 0
LineSets z d front e (SetWeak s r) l = SetsKey z d front e (slot_ephe s) (slot_key s) r l
LineSets z d front e _ l = ⊥

-- each ephemeron of eight keys that there is when a line begins stays as it is through each entry of the domain in the line, but that `wset` sets its slot
abbrev pub SparesSlots : Sizes → ℕ → List Entry → TableLine → List Entry → Type 0
SparesSlots z d old line new = (l : Label) → IsEight (graph_of z old) l → (front : List Entry) (e : Entry) → IsPrefix old front → IsPrefix (front ++ e ∷ []) new → is_entry_of d e ≡ true
    → (node_at (graph_of z (front ++ e ∷ [])) l ≡ node_at (graph_of z front) l) ⊎ LineSets z d front e line l

-- and so does each other block, but that calls write blocks of the map
abbrev pub SparesBlocks : Sizes → Label → ℕ → List Entry → TableLine → List Entry → Type 0
SparesBlocks z root d old line new = (l : Label) (n : Node) → node_at (graph_of z old) l ≡ Some n → (front : List Entry) (e : Entry) → IsPrefix old front → IsPrefix (front ++ e ∷ []) new → is_entry_of d e ≡ true
    → (node_at (graph_of z (front ++ e ∷ [])) l ≡ node_at (graph_of z front) l) ⊎ (IsBlockOf (graph_of z front) root l ⊎ LineSets z d front e line l)
