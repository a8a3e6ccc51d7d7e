-- The object graph: labels, values and nodes. The graph is the list of the allocated blocks, in the order of allocation.
use Rattle.std.specs.Prelude.{◌≡◌, ℕ, ◌+◌, Bool, true, cond, not, ◌&&◌, ◌==◌, List, [], ◌∷◌, map, length, slice_get, slice_set, option_map, Option, Some, None}
use Rattle.std.specs.List.{list_any}
use Rattle.std.specs.Option.{option_map_or}
use Rattle.model_core.specs.declared.label.Label.{Label}
use Rattle.model_core.specs.declared.graph.Value.{Value}
use Rattle.model_core.specs.declared.graph.Value.TheVariants.{Int, Block, Nothing}
use Rattle.model_core.specs.declared.graph.Node.{Node}
use Rattle.model_core.specs.declared.graph.Node.TheVariants.{Plain, Raw, Ephe}

-- a finite map from labels to nodes
abbrev pub Graph : Type 0
Graph = List (Label × Node)

-- whether two labels are equal
abbrev pub same_label : Label → Label → Bool
same_label a b = a.domain == b.domain && a.serial == b.serial

-- whether a label is in a list
abbrev pub has_label : List Label → Label → Bool
has_label labels l = list_any (λ k. same_label k l) labels

-- whether no label stands in a list twice
abbrev pub has_no_repeats : List Label → Bool
has_no_repeats [] = true
has_no_repeats (l ∷ labels) = not (has_label labels l) && has_no_repeats labels

-- the labels of the allocated blocks
abbrev pub labels : Graph → List Label
labels g = map (λ e. e.0) g

-- the node of a label
abbrev pub node_at : Graph → Label → Option Node
node_at [] l = None
node_at (e ∷ g) l = cond (same_label e.0 l) (Some e.1) (node_at g l)

-- the graph with a new node at a label that it has
abbrev pub with_node : Graph → Label → Node → Graph
with_node [] l n = []
with_node (e ∷ g) l n = cond (same_label e.0 l) ((e.0, n) ∷ g) (e ∷ with_node g l n)

-- the block with a label: the label and its node
abbrev pub block_at : Graph → Label → Option (Label × Node)
block_at g l = option_map (λ n. (l, n)) (node_at g l)

-- where the block with a label stands in the graph
pub record IsPlaceOf (g : Graph) (l : Label) (i : ℕ) : Type 0 where
  pub node : Node
  pub stands : slice_get g i ≡ Some (l, node)
  pub found : node_at g l ≡ Some node
  pub written : (n : Node) → with_node g l n ≡ slice_set g i (l, n)

-- the label that a value is, if it is one
abbrev pub label_of : Value → Option Label
label_of (Int z) = None
label_of (Block l) = Some l
label_of Nothing = None

-- the words that a block takes
abbrev pub words_of : Node → ℕ
words_of (Plain tag fields) = length fields + 2
words_of (Raw tag fields) = length fields + 2
words_of (Ephe keys datum) = length keys + 3

-- the words of the block with a label
abbrev pub words_at : Graph → Label → ℕ
words_at g l = option_map_or words_of (node_at g l) 0
