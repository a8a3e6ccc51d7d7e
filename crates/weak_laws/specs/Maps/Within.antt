-- What the entries of a call on a map write beside the map, and what they bring into it.
use Rattle.std.specs.Prelude.{◌≡◌, ◌⊎◌, ℕ, true, List, [], ◌∷◌, ◌++◌, Some, None}
use Rattle.model_core.specs.declared.label.Label.{Label}
use Rattle.model_core.specs.declared.entry.Entry.{Entry}
use Rattle.model_core.specs.declared.graph.Value.{Value}
use Rattle.model_core.specs.declared.graph.Value.TheVariants.{Block}
use Rattle.model_core.specs.declared.state.Sizes.{Sizes}
use Rattle.model_core.specs.Graph.{Graph, node_at}
use Rattle.model_core.specs.History.{IsPrefix, is_entry_of}
use Rattle.weak_laws.specs.Tables.Stages.{graph_of}
use Rattle.weak_laws.specs.Maps.Tries.{at, inside, IsMap}
use Rattle.weak_laws.specs.Maps.Steps.{OthersLeave}
use Rattle.weak_laws.specs.Maps.Calls.{bound_after, Looks}
use Rattle.weak_laws.specs.Maps.MapLaws.{BoundOrTaken}

-- a label that stands in a map: of a block of it, or of a leaf
abbrev pub StandsIn : Graph → Label → Label → Type 0
StandsIn g root l = (p : List ℕ) × (at (inside g) p (Block root) ≡ Some (Block l))

-- a block of a map: its root, or a block below
abbrev pub IsBlockOf : Graph → Label → Label → Type 0
IsBlockOf g root l = (p : List ℕ) × (at (inside g) p (Block root) ≡ Some (Block l)) × ((fields : List Value) × (inside g (Block l) ≡ Some fields))

-- a label of domain d that had no block yet at a front: of one that the domain makes behind it
abbrev pub IsMadeBehind : Sizes → ℕ → List Entry → Label → Type 0
IsMadeBehind z d old l = (l.domain ≡ d) × (node_at (graph_of z old) l ≡ None)

-- one entry writes no block but of the map or of the call's own, brings nothing else into the map, and leaves it a map
pub record StepsWithin (P : Label → Type 0) (g h : Graph) (root : Label) : Type 0 where
  pub writes : (l : Label) → (node_at h l ≡ node_at g l) ⊎ (IsBlockOf g root l ⊎ P l)
  pub joins : (p : List ℕ) (l : Label) → at (inside h) p (Block root) ≡ Some (Block l) → StandsIn g root l ⊎ P l
  pub map : IsMap g root → IsMap h root

-- so does each entry of domain d from one front to a later one, where the domain's own are those that it makes behind the first
abbrev pub OwnWithin : Sizes → Label → ℕ → List Entry → List Entry → List Entry → Type 0
OwnWithin z root d first old new = (front : List Entry) (e : Entry) → IsPrefix old front → IsPrefix (front ++ e ∷ []) new → is_entry_of d e ≡ true → StepsWithin (IsMadeBehind z d first) (graph_of z front) (graph_of z (front ++ e ∷ [])) root

-- two maps that share neither a block nor a leaf
abbrev pub AreApart : Graph → Label → Label → Type 0
AreApart g a b = (l : Label) → StandsIn g a l → StandsIn g b l → ⊥

-- to another map, with which its own shares nothing, a call of domain d does no more than a lookup does, and they share nothing afterwards. Each key is bound there as it was, or it was outside reach and is unbound. No other domain uses the two meanwhile
abbrev pub OtherMapsStay : Type 0
OtherMapsStay = (z : Sizes) (a b : Label) (d : ℕ) (old new : List Entry) → IsPrefix old new → OwnWithin z a d old old new → OthersLeave z a d old new → OthersLeave z b d old new
    → IsMap (graph_of z old) a → IsMap (graph_of z old) b → AreApart (graph_of z old) a b
    → Looks z b d old new × IsMap (graph_of z new) b × AreApart (graph_of z new) a b × ((k : Label) → BoundOrTaken z b old new k (bound_after z b old k))
