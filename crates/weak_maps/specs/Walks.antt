-- Where a call stands on the way to a key, and what its walk meets there.
use Rattle.std.specs.Prelude.{◌≡◌, ◌≢◌, ℕ, ◌+◌, Bool, true, false, List, [], ◌∷◌, ◌++◌, length, Option, Some, None}
use Rattle.model_core.specs.declared.label.Label.{Label}
use Rattle.model_core.specs.declared.command.Command.TheVariants.{Forget}
use Rattle.model_core.specs.declared.entry.Entry.{Entry}
use Rattle.model_core.specs.declared.graph.Value.{Value}
use Rattle.model_core.specs.declared.graph.Value.TheVariants.{Block}
use Rattle.model_core.specs.declared.graph.Node.TheVariants.{Ephe}
use Rattle.model_core.specs.declared.reply.Reply.{Reply}
use Rattle.model_core.specs.declared.state.Sizes.{Sizes}
use Rattle.model_core.specs.Graph.{Graph, node_at}
use Rattle.model_core.specs.Commands.{shown}
use Rattle.model_core.specs.History.{IsPrefix, is_entry_of}
use Rattle.weak_laws.specs.Tables.Stages.{graph_of}
use Rattle.weak_laws.specs.Maps.Tries.{at, inside, is_leaf, low_digits, way_to, way_length, IsMap}
use Rattle.weak_laws.specs.Maps.Steps.{OthersRespect}
use Rattle.weak_laws.specs.Maps.Calls.{PerformedBy, bound_after}
use Rattle.weak_maps.specs.Beside.{held_by}

-- all registers of domain d but 8 are as they were
abbrev pub KeepsButEight : Sizes → ℕ → List Entry → List Entry → Type 0
KeepsButEight z d old new = (r : ℕ) → r ≢ 8 → held_by z d new r ≡ held_by z d old r

-- from one front to a later one, entries of domain d change no block and make none
abbrev pub OwnQuiet : Sizes → ℕ → List Entry → List Entry → Type 0
OwnQuiet z d old new = (front : List Entry) (e : Entry) → IsPrefix old front → IsPrefix (front ++ e ∷ []) new → is_entry_of d e ≡ true → graph_of z (front ++ e ∷ []) ≡ graph_of z front

-- a call has changed no block so far, and a map is one still
pub record Looking (z : Sizes) (root : Label) (d : ℕ) (first now : List Entry) : Type 0 where
  pub quiet : OwnQuiet z d first now
  pub grows : IsPrefix first now
  pub map : IsMap (graph_of z now) root

-- a walk has followed so many steps of a key's way, the others are the digits of a number, and register 8 holds what they lead to
pub record Descends (z : Sizes) (d : ℕ) (first now : List Entry) (root k : Label) (at_end : Reply) (done rest : ℕ) : Type 0 where
  pub looking : Looking z root d first now
  pub keeps : KeepsButEight z d first now
  pub p : List ℕ
  pub many : length p ≡ done
  pub left : ℕ
  pub all : done + left ≡ way_length
  pub way : way_to z.domains k ≡ p ++ low_digits left rest
  pub v : Value
  pub there : at (inside (graph_of z now)) p (Block root) ≡ Some v
  pub held : held_by z d now 8 ≡ v
  pub shows : at_end ≡ shown v

-- a block is a leaf of a key with this datum, or one of another key or of none
abbrev pub LeafTells : Graph → Label → Label → Option Value → Type 0
LeafTells g l k (Some datum) = node_at g l ≡ Some (Ephe (Some k ∷ []) datum)
LeafTells g l k None = (key : Option Label) × (datum : Value) × (key ≢ Some k) × (node_at g l ≡ Some (Ephe (key ∷ []) datum))

-- a walk has met the field at which a key's way ends: at a front of the call it told what the key was bound to
pub record Meets (z : Sizes) (d : ℕ) (first now : List Entry) (root k : Label) (datum : Option Value) : Type 0 where
  pub looking : Looking z root d first now
  pub keeps : KeepsButEight z d first now
  pub front : List Entry
  pub since : IsPrefix first front
  pub until : IsPrefix front now
  pub bound : bound_after z root front k ≡ datum

-- a register holds the leaf that it met there
pub record HoldsLeaf (z : Sizes) (d : ℕ) (now : List Entry) (root k : Label) (datum : Option Value) (r : ℕ) : Type 0 where
  pub l : Label
  pub held : held_by z d now r ≡ Block l
  pub tells : LeafTells (graph_of z now) l k datum
  pub former : List Entry
  pub before : IsPrefix former now
  pub p : List ℕ
  pub there : at (inside (graph_of z former)) p (Block root) ≡ Some (Block l)
  pub leaf : is_leaf (node_at (graph_of z former) l)

-- what a walk leaves, by whether it has met a leaf
abbrev pub Met : Sizes → ℕ → List Entry → List Entry → Label → Label → Bool → Type 0
Met z d first now root k true = (datum : Option Value) × Meets z d first now root k datum × HoldsLeaf z d now root k datum 8
Met z d first now root k false = Meets z d first now root k None

-- whatever map the register holds, if others respect it
abbrev pub Descended : Sizes → ℕ → List Entry → List Entry → ℕ → ℕ → Label → Bool → Type 0
Descended z d old new map key k met = (root : Label) → held_by z d old map ≡ Block root → held_by z d old key ≡ Block k → IsMap (graph_of z old) root → OthersRespect z root d old new → Met z d old new root k met

-- a register and register 8 were emptied, one after the other
pub record Emptied (z : Sizes) (d : ℕ) (old new : List Entry) (dst : ℕ) : Type 0 where
  pub between : List Entry
  pub first : Reply
  pub second : Reply
  pub empties : PerformedBy z d old between (Forget dst) first
  pub clears : PerformedBy z d between new (Forget 8) second
