-- What lives at the addresses, and when words stand for it.
use Rattle.std.specs.Prelude.{[], nat_le, if◌then◌else◌, ◌≡◌, ◌≢◌, ℕ, ◌+◌, ◌*◌, ◌%◌, ◌<◌, ◌≤◌, ◌⊎◌, Bool, true, false, cond, ◌&&◌, IsTrue, List, ◌∷◌, length, map, slice_get, slice_index, Option, Some, None}
use Rattle.heap_words.specs.declared.classes.TheConstants.{SIZES}
use Rattle.model_core.specs.declared.label.Label.{Label}
use Rattle.model_core.specs.declared.graph.Value.{Value}
use Rattle.model_core.specs.declared.graph.Value.TheVariants.{Int, Block, Nothing}
use Rattle.model_core.specs.declared.graph.Node.{Node}
use Rattle.model_core.specs.declared.graph.Node.TheVariants.{Plain, Raw, Ephe}
use Rattle.model_core.specs.Graph.{Graph, node_at}
use Rattle.model_cycle.specs.Marks.{Marks}
use Rattle.model_core.specs.Commands.{key_value}
use Rattle.model_core.specs.Entries.{wiped_keys}
use Rattle.model_core.specs.Fronts.{Shape, PlainShape, RawShape, EpheShape, shape_of}
use Rattle.heap_words.specs.declared.value.Value as words
use Rattle.heap_words.specs.declared.value.Value.TheVariants.{Int as IntWord, Ref, Nothing as NothingWord}
use Rattle.heap_words.specs.declared.colours.Colours.{Colours}
use Rattle.heap_words.specs.declared.head.Head.{Head}
use Rattle.heap_words.specs.declared.head.Head.TheVariants.{Plain as PlainHead, Ephe as EpheHead, Forward}
use Rattle.heap_words.specs.Values.{IsPackable, value_word}
use Rattle.heap_words.specs.Heads.{IsPackableHead, head_word}
use Rattle.heap_words.specs.Labels.{IsPackableLabel, label_word}
use Rattle.heap_rule.specs.declared.config.Config.{Config}
use Rattle.heap_rule.specs.Layout.{heap_words, at_address}

-- what is owed to a copy that isn't filled yet: the young block that it is a copy of, the domain that fills it, and how many of its values it has
pub record Debt : Type 0 where
  pub source : ℕ
  pub domain : ℕ
  pub filled : ℕ

-- a block: its label and its shape, the copy to which its head forwards, what is owed to it, and which domain remembers its i-th value
pub record Place : Type 0 where
  pub label : Label
  pub shape : Shape
  pub forward : Option ℕ
  pub owed : Option Debt
  pub named : ℕ → Option ℕ

-- a block as running domains have it: it neither forwards nor is owed anything
pub record IsBare (p : Place) : Type 0 where
  pub no_forward : p.forward ≡ None
  pub no_debt : p.owed ≡ None

-- which block lives at an address
abbrev pub Live : Type 0
Live = ℕ → Option Place

-- the words of a block: head, label and values
abbrev pub extent : Shape → ℕ
extent (PlainShape size tag) = size + 2
extent (RawShape size tag) = size + 2
extent (EpheShape keys) = keys + 3

-- the words of the least size that has room for so many
abbrev pub least_size : List ℕ → ℕ → ℕ
least_size [] words = 0
least_size (size ∷ sizes) words = if nat_le words size then size else least_size sizes words

-- the words that a block with so many words of its own takes: those of its size class
unfoldable pub class_words : ℕ → ℕ
class_words words = least_size SIZES words

-- and so many a block takes
abbrev pub span : Shape → ℕ
span shape = class_words (extent shape)

-- the values of a block, in the order of their words
abbrev pub values_of : Node → List Value
values_of (Plain tag fields) = fields
values_of (Raw tag fields) = fields
values_of (Ephe keys datum) = datum ∷ map key_value keys

-- the head of a block of this colour, or of one that forwards to a copy
abbrev pub head_of : Option ℕ → Shape → ℕ → Bool → Head
head_of None (PlainShape size tag) colour scanned = PlainHead size tag colour scanned
head_of None (RawShape size tag) colour scanned = PlainHead size tag colour scanned
head_of None (EpheShape keys) colour scanned = EpheHead keys colour scanned
head_of (Some copy) shape colour scanned = Forward copy

-- the word of such a head
abbrev pub HeadIs : Option ℕ → Shape → ℕ → Bool → ℕ → Type 0
HeadIs forward shape colour scanned word = word ≡ head_word (head_of forward shape colour scanned)

-- the meanings of the colours, which blocks a cycle has marked and scanned ("Retrofitting Parallelism onto OCaml", section 3.2), and the keys of an ephemeron that a collection has emptied while its datum is still there
pub record Paint : Type 0 where
  pub colours : Colours
  pub marks : Marks
  pub emptied : Label → List ℕ

-- a node without the keys at these places
abbrev pub without_keys : List ℕ → Node → Node
without_keys [] n = n
without_keys (i ∷ is) (Ephe keys datum) = Ephe (wiped_keys (i ∷ is) keys) datum
without_keys (i ∷ is) (Plain tag fields) = Plain tag fields
without_keys (i ∷ is) (Raw tag fields) = Raw tag fields

-- the colour of a block: it is marked, or unmarked
abbrev pub colour_in : Paint → Label → ℕ
colour_in paint l = cond (paint.marks.marked l) paint.colours.marked paint.colours.unmarked

-- the word is the head of this block. The scanned mark of an unmarked block means nothing, and a marked block may have been scanned, or need no scan, without it
pub record IsHead (paint : Paint) (p : Place) (word : ℕ) : Type 0 where
  pub scanned : Bool
  pub packs : HeadIs p.forward p.shape (colour_in paint p.label) scanned word
  pub tells : IsTrue (paint.marks.marked p.label) → scanned ≡ true → IsTrue (paint.marks.scanned p.label)

-- the colour of a new block: while a cycle goes on beside running domains it is marked from the start ("Retrofitting Parallelism onto OCaml", section 4.3)
abbrev pub new_colour : Bool → Colours → ℕ
new_colour armed colours = cond armed colours.marked colours.unmarked

-- the word of the head of a new block, whose domain knows the colours and whether a cycle goes on. A block of the pools then needs no scan
pub record IsNewHead (known : Option Colours) (armed : Option Bool) (pooled : Bool) (shape : Shape) (word : ℕ) : Type 0 where
  pub colours : Colours
  pub known_is : known ≡ Some colours
  pub beside : Bool
  pub armed_is : armed ≡ Some beside
  pub fits : new_colour beside colours < 3
  pub packs : HeadIs None shape (new_colour beside colours) (pooled && beside) word

-- a head of this shape can be packed, whatever its colour. The tag tells a raw block from a plain one
abbrev pub IsPackableShape : Shape → Type 0
IsPackableShape (PlainShape size tag) = (1 ≤ size) × (size ≤ 1022) × (tag < 251)
IsPackableShape (RawShape size tag) = (1 ≤ size) × (size ≤ 1022) × (251 ≤ tag) × (tag < 256)
IsPackableShape (EpheShape keys) = (1 ≤ keys) × (keys ≤ 8)

-- the shape of a block with fields, by its tag
abbrev pub tagged : ℕ → ℕ → Shape
tagged size tag = if nat_le 251 tag then RawShape size tag else PlainShape size tag

-- whether a block needs no scan, since its fields refer to nothing
abbrev pub needs_no_scan : Shape → Bool
needs_no_scan (PlainShape size tag) = false
needs_no_scan (RawShape size tag) = true
needs_no_scan (EpheShape keys) = false

-- the word is a head of this shape, whatever its colour
pub record IsHeadOf (shape : Shape) (word : ℕ) : Type 0 where
  pub colour : ℕ
  pub scanned : Bool
  pub fits : IsPackableShape shape
  pub packable : IsPackableHead (head_of None shape colour scanned)
  pub packs : HeadIs None shape colour scanned word

-- the block has its i-th value
abbrev pub HasValue : Option Debt → ℕ → Type 0
HasValue None i = Unit {0}
HasValue (Some debt) i = i < debt.filled

-- a value with addresses stands for a value of the graph
abbrev pub Stands : Live → words.Value → Value → Type 0
Stands live (IntWord z) (Int v) = (z ≡ v) × IsPackable (IntWord z)
Stands live (Ref a) (Block l) = (p : Place) × (live a ≡ Some p) × (p.label ≡ l)
Stands live NothingWord Nothing = Unit {0}
Stands live _ _ = ⊥

-- a word stands for a value of the graph
pub record WordStands (live : Live) (word : ℕ) (v : Value) : Type 0 where
  pub value : words.Value
  pub packs : word ≡ value_word value
  pub stands : Stands live value v

-- no address
abbrev pub IsNoBlock : words.Value → Type 0
IsNoBlock (Ref a) = ⊥
IsNoBlock _ = Unit {0}

-- what a value with addresses shows of the graph's value
abbrev pub Shows : words.Value → Value → Type 0
Shows (IntWord z) (Int v) = z ≡ v
Shows (Ref a) (Block l) = Unit {0}
Shows NothingWord Nothing = Unit {0}
Shows _ _ = ⊥

-- the addresses of the pools come before those of the minor areas
abbrev pub IsOldAt : Config → ℕ → Type 0
IsOldAt k a = a ≤ k.pools * 4096

-- the word is no address in a minor area
abbrev pub IsOldWord : Config → ℕ → Type 0
IsOldWord k word = (word % 2 ≡ 1) ⊎ (word ≤ 2 * (k.pools * 4096))

-- the words at an address are the node of the block that lives there, as far as it is filled, without the keys that a collection has emptied
pub record Found (k : Config) (paint : Paint) (live : Live) (graph : Graph) (words : List ℕ) (a : ℕ) (p : Place) : Type 0 where
  pub node : Node
  pub there : node_at graph p.label ≡ Some node
  pub shape : shape_of node ≡ p.shape
  pub head : IsHead paint p (at_address k words a)
  pub blank : k.pools * 4096 < a → head.scanned ≡ false
  pub label : at_address k words (a + 1) ≡ label_word p.label.domain p.label.serial
  pub values : (i : ℕ) (v : Value) → HasValue p.owed i → slice_get (values_of (without_keys (paint.emptied p.label) node)) i ≡ Some v → WordStands live (at_address k words (a + 2 + i)) v
  pub old : IsOldAt k a → (i : ℕ) → i + 2 < extent p.shape → HasValue p.owed i → p.named i ≡ None → IsOldWord k (at_address k words (a + 2 + i))

-- a size class has room for so many words
abbrev pub HasClass : ℕ → Type 0
HasClass words = (class : ℕ) × (class < length SIZES) × (words ≤ slice_index SIZES class)

-- the block at an address lies in the heap, a size class has room for it, and its head and its label can be packed. An ephemeron lies in a pool
pub record Fits (k : Config) (a : ℕ) (p : Place) : Type 0 where
  pub low : 1 ≤ a
  pub high : a + extent p.shape ≤ heap_words k + 1
  pub classed : HasClass (extent p.shape)
  pub head : IsPackableShape p.shape
  pub label : IsPackableLabel (p.label.domain, p.label.serial)
  pub pooled : (keys : ℕ) → p.shape ≡ EpheShape keys → IsOldAt k a

-- how blocks lie: each fits, no two that don't forward have one label, and no two share a word
pub record Placed (k : Config) (live : Live) : Type 0 where
  pub fits : (a : ℕ) (p : Place) → live a ≡ Some p → Fits k a p
  pub once : (a b : ℕ) (p q : Place) → live a ≡ Some p → live b ≡ Some q → p.label ≡ q.label → p.forward ≡ None → q.forward ≡ None → a ≡ b
  pub apart : (a b : ℕ) (p q : Place) → live a ≡ Some p → live b ≡ Some q → a ≢ b → (a + extent p.shape ≤ b) ⊎ (b + extent q.shape ≤ a)

-- how blocks lie in the minor areas: each takes the words of its size class, and no two share one of these
pub record Spread (k : Config) (live : Live) : Type 0 where
  pub apart : (a b : ℕ) (p q : Place) → live a ≡ Some p → live b ≡ Some q → k.pools * 4096 < a → a < b → a + span p.shape ≤ b
  pub inside : (a : ℕ) (p : Place) → live a ≡ Some p → k.pools * 4096 < a → a + span p.shape ≤ heap_words k + 1

-- nothing forwards, and no copy is owed anything
abbrev pub Settled : Live → Type 0
Settled live = (a : ℕ) (p : Place) → live a ≡ Some p → IsBare p

-- the block at an address lives there again, as the same block
pub record Lasts (live : Live) (a : ℕ) (p : Place) : Type 0 where
  pub place : Place
  pub lives : live a ≡ Some place
  pub label : place.label ≡ p.label
  pub shape : place.shape ≡ p.shape

-- each block of the one lives in the other
abbrev pub More : Live → Live → Type 0
More live live' = (a : ℕ) (p : Place) → live a ≡ Some p → Lasts live' a p
