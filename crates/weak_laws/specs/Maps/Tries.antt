-- Weak maps: a trie of plain blocks whose leaves are ephemerons of one key. What a map binds is a function of the graph.
use Rattle.std.specs.Prelude.{◌≡◌, ◌≢◌, ℕ, zero, suc, ◌+◌, ◌*◌, ◌/◌, ◌%◌, ◌^◌, ◌<◌, cond, List, [], ◌∷◌, ◌++◌, length, slice_index_or, option_and_then, pos, Option, Some, None, ◌⊎◌}
use Rattle.std.specs.Option.{option_map_or}
use Rattle.model_core.specs.declared.label.Label.{Label}
use Rattle.model_core.specs.declared.graph.Value.{Value}
use Rattle.model_core.specs.declared.graph.Value.TheVariants.{Int, Block, Nothing}
use Rattle.model_core.specs.declared.graph.Node.{Node}
use Rattle.model_core.specs.declared.graph.Node.TheVariants.{Plain, Ephe}
use Rattle.model_core.specs.Graph.{Graph, same_label, node_at}

-- how many fields the root has, and each block below it
abbrev pub root_width : ℕ
root_width = 512

abbrev pub node_width : ℕ
node_width = 32

-- so many digits of a number below the first, the lowest first
abbrev pub low_digits : ℕ → ℕ → List ℕ
low_digits zero n = []
low_digits (suc d) n = n % node_width ∷ low_digits d (n / node_width)

-- a number for each label of a heap of n domains, which no other label has
abbrev pub number_of : ℕ → Label → ℕ
number_of n k = k.serial * n + k.domain

-- the digits of a number: the first by the root's width, six by that of the blocks below
abbrev pub digits : ℕ → List ℕ
digits m = m % root_width ∷ low_digits 6 (m / root_width)

-- the way to a key: which field to follow at the root, at the block below it, and so on
abbrev pub way_to : ℕ → Label → List ℕ
way_to n k = digits (number_of n k)

-- a label that a heap of n domains may give out: its serial is a number of 32 bits
abbrev pub IsLabelOf : ℕ → Label → Type 0
IsLabelOf n k = (k.domain < n) × (k.serial < 2 ^ 32)

-- how many steps a way has
abbrev pub way_length : ℕ
way_length = 7

-- the fields of a plain block
abbrev pub fields_of : Option Node → Option (List Value)
fields_of (Some (Plain tag fields)) = Some fields
fields_of _ = None

-- the fields of the plain block that a value is, if it is one
abbrev pub inside : Graph → Value → Option (List Value)
inside g (Block l) = fields_of (node_at g l)
inside g v = None

-- what a way leads to, from a value: it ends at the first value that is no plain block
abbrev pub ends : (Value → Option (List Value)) → List ℕ → Value → Value
ends f [] v = v
ends f (i ∷ is) v = option_map_or (λ fields. ends f is (slice_index_or fields i Nothing)) (f v) v

-- what all steps of a way lead to, if each of them but the last is at a plain block
abbrev pub at : (Value → Option (List Value)) → List ℕ → Value → Option Value
at f [] v = Some v
at f (i ∷ is) v = option_and_then (λ fields. at f is (slice_index_or fields i Nothing)) (f v)

-- what a leaf binds a key to
abbrev pub bound_in : Label → Option Node → Option Value
bound_in k (Some (Ephe (Some l ∷ []) datum)) = cond (same_label l k) (Some datum) None
bound_in k _ = None

abbrev pub bound_by : Graph → Label → Value → Option Value
bound_by g k (Block l) = bound_in k (node_at g l)
bound_by g k v = None

-- what a map of a heap of n domains binds a key to
abbrev pub found : ℕ → Graph → Label → Label → Option Value
found n g root k = bound_by g k (ends (inside g) (way_to n k) (Block root))

-- what a field of a map may hold: 0, a leaf, or a block of the map. Past its last field there is nothing
abbrev pub is_leaf : Option Node → Type 0
is_leaf (Some (Ephe (key ∷ []) datum)) = Unit {0}
is_leaf _ = ⊥

abbrev pub IsSlot : Graph → Value → Type 0
IsSlot g (Int z) = z ≡ pos 0
IsSlot g (Block l) = is_leaf (node_at g l) ⊎ ((fields : List Value) × (fields_of (node_at g l) ≡ Some fields))
IsSlot g Nothing = Unit {0}

-- no block stands at two places
abbrev pub IsTree : (Value → Option (List Value)) → Value → Type 0
IsTree f v = (p q : List ℕ) (u : Value) (fields : List Value) → at f p v ≡ Some u → at f q v ≡ Some u → f u ≡ Some fields → p ≡ q

-- how many fields the block has to which so many steps lead
abbrev pub width_at : List ℕ → ℕ
width_at [] = root_width
width_at (i ∷ is) = node_width

-- a map: a tree of plain blocks, each as wide as it is to be, no deeper than a way is long
pub record IsMap (g : Graph) (root : Label) : Type 0 where
  pub tree : IsTree (inside g) (Block root)
  pub slots : (p : List ℕ) (v : Value) → at (inside g) p (Block root) ≡ Some v → IsSlot g v
  pub wide : (p : List ℕ) (v : Value) (fields : List Value) → at (inside g) p (Block root) ≡ Some v → inside g v ≡ Some fields → length fields ≡ width_at p
  pub low : (p : List ℕ) (v : Value) (fields : List Value) → at (inside g) p (Block root) ≡ Some v → inside g v ≡ Some fields → length p < way_length
  pub own : (fields : List Value) × (inside g (Block root) ≡ Some fields)

-- each leaf that binds a key stands on the key's way
abbrev pub IsInPlace : ℕ → Graph → Label → Type 0
IsInPlace n g root = (p : List ℕ) (l k : Label) → at (inside g) p (Block root) ≡ Some (Block l) → bound_by g k (Block l) ≢ None → (q : List ℕ) × (way_to n k ≡ p ++ q)
