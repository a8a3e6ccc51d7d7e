-- Leaves of a map that have lost their key, and to which places entries bring them.
use Rattle.std.specs.Prelude.{◌≡◌, ◌⊎◌, ℕ, true, false, List, [], ◌∷◌, ◌++◌, Some, None}
use Rattle.model_core.specs.declared.label.Label.{Label}
use Rattle.model_core.specs.declared.entry.Entry.{Entry}
use Rattle.model_core.specs.declared.graph.Value.{Value}
use Rattle.model_core.specs.declared.graph.Value.TheVariants.{Block}
use Rattle.model_core.specs.declared.graph.Node.TheVariants.{Ephe}
use Rattle.model_core.specs.declared.state.Sizes.{Sizes}
use Rattle.model_core.specs.Graph.{Graph, node_at}
use Rattle.model_core.specs.History.{IsPrefix, is_entry_of}
use Rattle.weak_laws.specs.Tables.Stages.{graph_of}
use Rattle.weak_laws.specs.Maps.Tries.{at, inside, is_leaf}
use Rattle.weak_laws.specs.Maps.Steps.{Clears}

-- a leaf that has lost its key
abbrev pub IsDeadLeaf : Graph → Label → Type 0
IsDeadLeaf g l = (datum : Value) × (node_at g l ≡ Some (Ephe (None ∷ []) datum))

-- such a leaf stands in a map
pub record StandsDead (g : Graph) (root l : Label) : Type 0 where
  pub p : List ℕ
  pub there : at (inside g) p (Block root) ≡ Some (Block l)
  pub dead : IsDeadLeaf g l

-- such a leaf stood in a map at this front or an earlier one
pub record StoodDead (z : Sizes) (root : Label) (h : List Entry) (l : Label) : Type 0 where
  pub former : List Entry
  pub before : IsPrefix former h
  pub p : List ℕ
  pub there : at (inside (graph_of z former)) p (Block root) ≡ Some (Block l)
  pub leaf : is_leaf (node_at (graph_of z former) l)
  pub dead : IsDeadLeaf (graph_of z h) l

-- one entry brings no such leaf to a place: where one stands afterwards it stood before, at that place or at one on the way there
abbrev pub BringsNoDead : Graph → Graph → Label → Type 0
BringsNoDead g h root = (p : List ℕ) (l : Label) → IsDeadLeaf g l → at (inside h) p (Block root) ≡ Some (Block l) → (q : List ℕ) × (r : List ℕ) × (p ≡ q ++ r) × (at (inside g) q (Block root) ≡ Some (Block l))

-- so does each entry from one front to a later one that isn't of domain d
abbrev pub OthersBringNoDead : Sizes → Label → ℕ → List Entry → List Entry → Type 0
OthersBringNoDead z root d old new = (front : List Entry) (e : Entry) → IsPrefix old front → IsPrefix (front ++ e ∷ []) new → is_entry_of d e ≡ false → BringsNoDead (graph_of z front) (graph_of z (front ++ e ∷ [])) root

-- so does each that is of domain d
abbrev pub OwnBringNoDead : Sizes → Label → ℕ → List Entry → List Entry → Type 0
OwnBringNoDead z root d old new = (front : List Entry) (e : Entry) → IsPrefix old front → IsPrefix (front ++ e ∷ []) new → is_entry_of d e ≡ true → BringsNoDead (graph_of z front) (graph_of z (front ++ e ∷ [])) root

-- each entry of domain d leaves all blocks as they are, or takes a leaf that binds nothing out of its field
abbrev pub OwnClear : Sizes → Label → ℕ → List Entry → List Entry → Type 0
OwnClear z root d old new = (front : List Entry) (e : Entry) → IsPrefix old front → IsPrefix (front ++ e ∷ []) new → is_entry_of d e ≡ true
    → (graph_of z (front ++ e ∷ []) ≡ graph_of z front) ⊎ Clears (graph_of z front) (graph_of z (front ++ e ∷ [])) root
