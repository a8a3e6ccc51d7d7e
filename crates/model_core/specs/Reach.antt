-- Reachability: the least set of labels that holds the roots and is closed under the edges of the graph.
use Rattle.std.specs.Prelude.{ℕ, zero, suc, Bool, true, cond, IsTrue, List, [], ◌∷◌, ◌++◌, length, filter_map, flat_map, fold, option_to_list, Option, Some, None}
use Rattle.std.specs.List.{list_all}
use Rattle.std.specs.Option.{option_map_or}
use Rattle.model_core.specs.declared.label.Label.{Label}
use Rattle.model_core.specs.declared.graph.Node.{Node}
use Rattle.model_core.specs.declared.graph.Node.TheVariants.{Plain, Raw, Ephe}
use Rattle.model_core.specs.Graph.{Graph, labels, has_label, label_of, node_at}

-- whether a key is empty or alive
abbrev pub key_holds : (Label → Bool) → Option Label → Bool
key_holds alive None = true
key_holds alive (Some k) = alive k

-- what a node keeps alive: a plain block its fields, a raw block nothing, an ephemeron its data where all its full keys are alive
abbrev pub edges_of : (Label → Bool) → Node → List Label
edges_of alive (Plain tag fields) = filter_map label_of fields
edges_of alive (Raw tag fields) = []
edges_of alive (Ephe keys datum) = cond (list_all (key_holds alive) keys) (option_to_list (label_of datum)) []

-- what a label keeps alive
abbrev pub edges_at : Graph → (Label → Bool) → Label → List Label
edges_at g alive l = option_map_or (edges_of alive) (node_at g l) []

-- the set with one more label
abbrev pub with_label : List Label → Label → List Label
with_label live l = cond (has_label live l) live (live ++ l ∷ [])

-- the set with what its labels keep alive
abbrev pub grow : Graph → List Label → List Label
grow g live = fold with_label live (flat_map (edges_at g (has_label live)) live)

-- n rounds of growing
abbrev pub grow_rounds : ℕ → Graph → List Label → List Label
grow_rounds zero g live = live
grow_rounds (suc n) g live = grow_rounds n g (grow g live)

-- the labels reachable from the roots: as many rounds as the graph has labels
unfoldable pub reachable : Graph → List Label → List Label
reachable g roots = grow_rounds (length g) g (fold with_label [] roots)

-- whether a label is reachable from the roots
abbrev pub is_reachable : Graph → List Label → Label → Bool
is_reachable g roots l = has_label (reachable g roots) l

-- each root, and each label that is kept alive, has a node
pub record IsClosedGraph (g : Graph) (roots : List Label) : Type 0 where
  pub roots_have_nodes : (l : Label) → IsTrue (has_label roots l) → IsTrue (has_label (labels g) l)
  pub edges_have_nodes : (alive : Label → Bool) (l m : Label) → IsTrue (has_label (edges_at g alive l) m) → IsTrue (has_label (labels g) m)

-- a set holds the roots
abbrev pub HoldsRoots : List Label → (Label → Bool) → Type 0
HoldsRoots roots alive = (l : Label) → IsTrue (has_label roots l) → IsTrue (alive l)

-- a set holds what its labels keep alive
abbrev pub IsClosedUnder : Graph → (Label → Bool) → Type 0
IsClosedUnder g alive = (l m : Label) → IsTrue (alive l) → IsTrue (has_label (edges_at g alive l) m) → IsTrue (alive m)

-- the least set that holds the roots and is closed
pub record IsLeastClosed (g : Graph) (roots live : List Label) : Type 0 where
  pub holds_roots : HoldsRoots roots (has_label live)
  pub closed : IsClosedUnder g (has_label live)
  pub least : (alive : Label → Bool) → HoldsRoots roots alive → IsClosedUnder g alive → (l : Label) → IsTrue (has_label live l) → IsTrue (alive l)

-- the law of `reachable`
abbrev pub ReachLaw : Type 0
ReachLaw = (g : Graph) (roots : List Label) → IsClosedGraph g roots → IsLeastClosed g roots (reachable g roots)
