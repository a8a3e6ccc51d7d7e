-- Tables and weak arrays: which blocks of an object graph are theirs, and what they bind.
use Rattle.std.specs.Prelude.{◌≡◌, ℕ, ◌%◌, ◌<◌, Bool, true, false, not, ◌&&◌, ◌==◌, cond, IsTrue, List, [], ◌∷◌, map, length, flat_map, replicate, slice_index_or, slice_set, is_some, pos, Option, Some, None}
use Rattle.std.specs.List.{list_all}
use Rattle.model_core.specs.declared.label.Label.{Label}
use Rattle.model_core.specs.declared.graph.Value.{Value}
use Rattle.model_core.specs.declared.graph.Value.TheVariants.{Int, Block, Nothing}
use Rattle.model_core.specs.declared.graph.Node.{Node}
use Rattle.model_core.specs.declared.graph.Node.TheVariants.{Plain, Ephe}
use Rattle.model_core.specs.Graph.{Graph, same_label, has_label, has_no_repeats, node_at}
use Rattle.model_core.specs.Commands.{is_full_value}

-- how many buckets a table has
abbrev pub bucket_count : ℕ
bucket_count = 64

-- a key and its datum
abbrev pub Binding : Type 0
Binding = Label × Value

-- a cell of a chain: its node, and the ephemeron that the node's first field holds
pub record Cell : Type 0 where
  pub node : Label
  pub ephe : Label

-- whether a block is an ephemeron of one key
abbrev pub is_weak : Option Node → Bool
is_weak (Some (Ephe (key ∷ []) datum)) = true
is_weak _ = false

-- the key of an ephemeron of one key, if it is full
abbrev pub key_of : Option Node → Option Label
key_of (Some (Ephe (key ∷ []) datum)) = key
key_of _ = None

-- what an ephemeron of one key binds: nothing, where its key is empty
abbrev pub bound : Option Label → Value → List Binding
bound None datum = []
bound (Some key) datum = (key, datum) ∷ []

abbrev pub binding_of : Option Node → List Binding
binding_of (Some (Ephe (key ∷ []) datum)) = bound key datum
binding_of _ = []

-- what a chain binds, in its order
abbrev pub chain_bindings : Graph → List Cell → List Binding
chain_bindings g cells = flat_map (λ c. binding_of (node_at g c.ephe)) cells

-- what a table of these chains binds: bucket after bucket
abbrev pub bindings : Graph → List (List Cell) → List Binding
bindings g chains = flat_map (chain_bindings g) chains

abbrev pub keys_of : List Binding → List Label
keys_of bs = map (λ b. b.0) bs

-- the bindings without a key
abbrev pub without : Label → List Binding → List Binding
without k [] = []
without k (b ∷ bs) = cond (same_label b.0 k) (without k bs) (b ∷ without k bs)

-- the datum to which a key is bound
abbrev pub datum_at : List Binding → Label → Option Value
datum_at [] k = None
datum_at (b ∷ bs) k = cond (same_label b.0 k) (Some b.1) (datum_at bs k)

-- the node of a cell: a plain block of its ephemeron and of what comes next
pub record IsCell (g : Graph) (c : Cell) (rest : Value) : Type 0 where
  pub tag : ℕ
  pub node : node_at g c.node ≡ Some (Plain tag (Block c.ephe ∷ rest ∷ []))
  pub weak : IsTrue (is_weak (node_at g c.ephe))

-- a value that leads to these cells, one by one: the first node, or the integer 0 where none is left
abbrev pub Links : Graph → Value → List Cell → Type 0
Links g v [] = v ≡ Int (pos 0)
Links g v (c ∷ cs) = (v ≡ Block c.node) × ((rest : Value) × IsCell g c rest × Links g rest cs)

-- what leads to these cells
abbrev pub head_of : List Cell → Value
head_of [] = Int (pos 0)
head_of (c ∷ cs) = Block c.node

-- the labels of a chain's blocks
abbrev pub cell_labels : List Cell → List Label
cell_labels [] = []
cell_labels (c ∷ cs) = c.node ∷ c.ephe ∷ cell_labels cs

-- the labels of a table's blocks
abbrev pub table_labels : Label → List (List Cell) → List Label
table_labels root chains = root ∷ flat_map cell_labels chains

-- whether these may be the bindings of bucket i: keys of this bucket, each once, and no datum is missing
abbrev pub is_bucket : ℕ → List Binding → Bool
is_bucket i [] = true
is_bucket i (b ∷ bs) = (b.0.serial % bucket_count == i) && (is_full_value b.1 && (not (has_label (keys_of bs) b.0) && is_bucket i bs))

-- a table: a plain block whose fields lead to these chains
pub record IsTable (g : Graph) (root : Label) (chains : List (List Cell)) : Type 0 where
  pub tag : ℕ
  pub fields : List Value
  pub node : node_at g root ≡ Some (Plain tag fields)
  pub size : length fields ≡ bucket_count
  pub count : length chains ≡ bucket_count
  pub linked : (i : ℕ) → i < bucket_count → Links g (slice_index_or fields i Nothing) (slice_index_or chains i [])
  pub once : IsTrue (has_no_repeats (table_labels root chains))
  pub bucket : (i : ℕ) → i < bucket_count → IsTrue (is_bucket i (chain_bindings g (slice_index_or chains i [])))

-- a weak array: a plain block whose fields are these ephemerons of one key
pub record IsWeakArray (g : Graph) (root : Label) (slots : List Label) : Type 0 where
  pub tag : ℕ
  pub node : node_at g root ≡ Some (Plain tag (map Block slots))
  pub weak : IsTrue (list_all (λ e. is_weak (node_at g e)) slots)
  pub once : IsTrue (has_no_repeats (root ∷ slots))

-- the keys in a weak array's slots
abbrev pub slot_keys : Graph → List Label → List (Option Label)
slot_keys g slots = map (λ e. key_of (node_at g e)) slots

-- whether the ephemeron of a cell has a key
abbrev pub has_key : Graph → Cell → Bool
has_key g c = is_some (key_of (node_at g c.ephe))

-- whether each cell in the bucket of a key has a key
abbrev pub is_bucket_full : Graph → Label → List (List Cell) → Bool
is_bucket_full g k chains = list_all (has_key g) (slice_index_or chains (k.serial % bucket_count) [])

-- a table has one cell more, which is new and the first in the bucket of a key
pub record HasOneMore (g : Graph) (k : Label) (chains grown : List (List Cell)) : Type 0 where
  pub cell : Cell
  pub more : grown ≡ slice_set chains (k.serial % bucket_count) (cell ∷ slice_index_or chains (k.serial % bucket_count) [])
  pub node : node_at g cell.node ≡ None
  pub ephe : node_at g cell.ephe ≡ None

-- two lists of labels have none in common
abbrev pub Apart : List Label → List Label → Type 0
Apart a b = (l : Label) → IsTrue (has_label a l) → has_label b l ≡ false

-- so many chains without a cell
abbrev pub empty_chains : ℕ → List (List Cell)
empty_chains n = replicate n []
