-- What stands in a weak map, as lists in the order of its fields: its blocks, its leaves, and what these bind.
use Rattle.std.specs.Prelude.{ℕ, zero, suc, cond, List, [], ◌∷◌, ◌++◌, flat_map, Option}
use Rattle.std.specs.Option.{option_map_or}
use Rattle.model_core.specs.declared.label.Label.{Label}
use Rattle.model_core.specs.declared.graph.Value.{Value}
use Rattle.model_core.specs.declared.graph.Value.TheVariants.{Block}
use Rattle.model_core.specs.Graph.{Graph, node_at}
use Rattle.weak_laws.specs.Tables.Structures.{Binding, binding_of, is_weak}
use Rattle.weak_laws.specs.Maps.Tries.{inside, way_length}

-- what is gathered from a value on, so many steps deep: what the value has of its own, and then what is gathered from the fields of the plain block that it is
abbrev pub gathered : {A : Type 0} → (Value → Option (List Value)) → (Value → List A) → ℕ → Value → List A
gathered f own zero v = own v
gathered f own (suc depth) v = own v ++ option_map_or (λ fields. flat_map (gathered f own depth) fields) (f v) []

-- the label of a block
abbrev pub block_label : Value → List Label
block_label (Block l) = l ∷ []
block_label v = []

-- the label of a leaf
abbrev pub leaf_label : Graph → Value → List Label
leaf_label g (Block l) = cond (is_weak (node_at g l)) (l ∷ []) []
leaf_label g v = []

-- the labels of all blocks of the map at a root: its first, those below, and its leaves
unfoldable pub map_labels : Graph → Label → List Label
map_labels g root = gathered (inside g) block_label way_length (Block root)

-- those of its leaves
unfoldable pub map_leaves : Graph → Label → List Label
map_leaves g root = gathered (inside g) (leaf_label g) way_length (Block root)

-- what a leaf binds
abbrev pub leaf_bindings : Graph → Value → List Binding
leaf_bindings g (Block l) = binding_of (node_at g l)
leaf_bindings g v = []

-- and what is bound from a value on, so many steps deep
abbrev pub bindings_below : Graph → ℕ → Value → List Binding
bindings_below g depth v = gathered (inside g) (leaf_bindings g) depth v

-- what the map binds: what its leaves do, one after the other
abbrev pub bindings_of : Graph → Label → List Binding
bindings_of g root = flat_map (λ e. binding_of (node_at g e)) (map_leaves g root)
