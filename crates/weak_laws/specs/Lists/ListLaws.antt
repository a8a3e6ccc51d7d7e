-- Laws of a map's list of bindings.
use Rattle.std.specs.Prelude.{◌≡◌, ◌≢◌, ◌↔◌, ℕ, Bool, IsTrue, List, [], ◌∷◌, Some, None}
use Rattle.model_core.specs.declared.label.Label.{Label}
use Rattle.model_core.specs.declared.entry.Entry.{Entry}
use Rattle.model_core.specs.declared.graph.Value.{Value}
use Rattle.model_core.specs.declared.graph.Value.TheVariants.{Block, Nothing}
use Rattle.model_core.specs.declared.graph.Node.TheVariants.{Ephe}
use Rattle.model_core.specs.declared.state.Sizes.{Sizes}
use Rattle.model_core.specs.declared.state.State.{State}
use Rattle.model_core.specs.Graph.{Graph, has_label, has_no_repeats, node_at}
use Rattle.model_core.specs.Entries.{keys_are_live}
use Rattle.model_core.specs.Reach.{IsClosedUnder, edges_at}
use Rattle.weak_laws.specs.Tables.Structures.{Apart, datum_at, keys_of, without}
use Rattle.weak_laws.specs.Tables.Thinning.{Changes, IsOutside, ThinnedBy, WasOutside}
use Rattle.weak_laws.specs.Tables.Stages.{Goes, graph_of}
use Rattle.weak_laws.specs.Maps.Tries.{at, bound_by, found, inside, is_leaf, way_to, IsMap, IsInPlace}
use Rattle.weak_laws.specs.Maps.Steps.{Sets, Deepens, Clears, Empties, IsThinned, IsUntouched}
use Rattle.weak_laws.specs.Maps.Within.{StandsIn}
use Rattle.weak_laws.specs.Lists.Orders.{OrderedBy}
use Rattle.weak_laws.specs.Lists.Lists.{bindings_of, map_labels, map_leaves}

-- the list binds each key as a lookup in the map does
abbrev pub ListedIsFound : Type 0
ListedIsFound = (n : ℕ) (g : Graph) (root : Label) → IsInPlace n g root → (k : Label) → datum_at (bindings_of g root) k ≡ found n g root k

-- and no key twice
abbrev pub ListedOnce : Type 0
ListedOnce = (n : ℕ) (g : Graph) (root : Label) → IsInPlace n g root → IsTrue (has_no_repeats (keys_of (bindings_of g root)))

-- where a leaf of a key is set, or taken out, the list without the key is as it was
abbrev pub SetListed : Type 0
SetListed = (n : ℕ) (g h : Graph) (root k : Label) (new : Value) → IsMap g root → Sets n g h root k new → without k (bindings_of h root) ≡ without k (bindings_of g root)

-- and it binds the key as the new leaf does
abbrev pub SetBindsListed : Type 0
SetBindsListed = (n : ℕ) (g h : Graph) (root k : Label) (new : Value) → IsMap g root → IsInPlace n h root → Sets n g h root k new → datum_at (bindings_of h root) k ≡ bound_by g k new

-- where the key is taken out, what is left is the list without it
abbrev pub TakenListed : Type 0
TakenListed = (n : ℕ) (g h : Graph) (root k : Label) (new : Value) → IsMap g root → IsInPlace n h root → Sets n g h root k new → bound_by g k new ≡ None → bindings_of h root ≡ without k (bindings_of g root)

-- a leaf that goes one step deeper changes nothing of the list
abbrev pub DeepenListed : Type 0
DeepenListed = (n : ℕ) (g h : Graph) (root : Label) → IsMap g root → Deepens n g h root → bindings_of h root ≡ bindings_of g root

-- nor does a leaf that binds nothing and is taken out
abbrev pub ClearListed : Type 0
ClearListed = (g h : Graph) (root : Label) → IsMap g root → Clears g h root → bindings_of h root ≡ bindings_of g root

-- nor a field that holds nothing and is emptied
abbrev pub EmptyListed : Type 0
EmptyListed = (g h : Graph) (root : Label) → IsMap g root → Empties g h root → bindings_of h root ≡ bindings_of g root

-- nor what writes none of the map's blocks
abbrev pub UntouchedListed : Type 0
UntouchedListed = (g h : Graph) (root : Label) → IsMap g root → IsUntouched g h root → bindings_of h root ≡ bindings_of g root

-- where leaves lose keys that are outside reach, and nothing else changes, the list loses pairs of such keys
abbrev pub ThinnedListed : Type 0
ThinnedListed = (s : State) (h : Graph) (root : Label) → IsMap s.graph root → IsThinned (IsOutside s) s.graph h root → ThinnedBy (IsOutside s) (bindings_of s.graph root) (bindings_of h root)

-- so from one front to a later one between which no call wrote a block, it loses pairs of keys that were outside reach
abbrev pub CollectorListed : Type 0
CollectorListed = (z : Sizes) (old new : List Entry) (root : Label) → Goes z old new [] → IsMap (graph_of z old) root → ThinnedBy (WasOutside z old new) (bindings_of (graph_of z old) root) (bindings_of (graph_of z new) root)

-- the list stands in the order of its keys' ways
abbrev pub ListedInOrder : Type 0
ListedInOrder = (n : ℕ) (g : Graph) (root : Label) → IsInPlace n g root → OrderedBy (way_to n) (bindings_of g root)

-- so two maps that bind the same have one list, whatever their blocks are
abbrev pub FoundListed : Type 0
FoundListed = (n : ℕ) (g h : Graph) (a b : Label) → IsInPlace n g a → IsInPlace n h b → ((l : Label) → found n h b l ≡ found n g a l) → bindings_of h b ≡ bindings_of g a

-- and two that bind the same but for one key have one without it
abbrev pub FoundButListed : Type 0
FoundButListed = (n : ℕ) (g h : Graph) (a b k : Label) → IsInPlace n g a → IsInPlace n h b → ((l : Label) → l ≢ k → found n h b l ≡ found n g a l) → without k (bindings_of h b) ≡ without k (bindings_of g a)

-- the labels of a map's blocks are those that stand in it
abbrev pub LabelsStand : Type 0
LabelsStand = (g : Graph) (root : Label) → IsMap g root → (l : Label) → IsTrue (has_label (map_labels g root) l) ↔ StandsIn g root l

-- a leaf stands in a map
abbrev pub StandsAsLeaf : Graph → Label → Label → Type 0
StandsAsLeaf g root l = (p : List ℕ) × (at (inside g) p (Block root) ≡ Some (Block l)) × is_leaf (node_at g l)

-- and those of its leaves are those at which leaves stand
abbrev pub LeavesStand : Type 0
LeavesStand = (g : Graph) (root : Label) → IsMap g root → (l : Label) → IsTrue (has_label (map_leaves g root) l) ↔ StandsAsLeaf g root l

-- what changes no block of a map but by thinning it thins the map
abbrev pub ApartThinned : Type 0
ApartThinned = (written : List Label) (g h : Graph) (root : Label) → IsMap g root → Changes (λ l. Unit {0}) written g h → Apart (map_labels g root) written → IsThinned (λ l. Unit {0}) g h root

-- a set of labels that is closed under the edges of a graph, has the keys of its ephemerons and holds a map's root holds each key that the map binds
abbrev pub HeldKeysLive : Type 0
HeldKeysLive = (n : ℕ) (g : Graph) (alive : Label → Bool) (root : Label) → IsClosedUnder g alive → ((l : Label) → IsTrue (alive l) → IsTrue (keys_are_live alive (node_at g l)))
    → IsInPlace n g root → IsTrue (alive root) → (k : Label) → IsTrue (has_label (keys_of (bindings_of g root)) k) → IsTrue (alive k)

-- what a leaf of the map binds is in the list
abbrev pub LeafIsListed : Type 0
LeafIsListed = (n : ℕ) (g : Graph) (root : Label) → IsInPlace n g root → (l k : Label) (datum : Value) → IsTrue (has_label (map_leaves g root) l) → node_at g l ≡ Some (Ephe (Some k ∷ []) datum) → datum_at (bindings_of g root) k ≡ Some datum

-- no key is bound to a block
abbrev pub NoDatumIsBlock : Graph → Label → Type 0
NoDatumIsBlock g root = (k : Label) (v : Value) (m : Label) → datum_at (bindings_of g root) k ≡ Some v → v ≡ Block m → ⊥

-- a leaf without its key has no datum
abbrev pub NoDatumLeft : Graph → Label → Type 0
NoDatumLeft g root = (l : Label) (datum : Value) → IsTrue (has_label (map_leaves g root) l) → node_at g l ≡ Some (Ephe (None ∷ []) datum) → datum ≡ Nothing

-- then what a map's blocks keep alive are blocks of the map
abbrev pub MapHoldsItself : Type 0
MapHoldsItself = (n : ℕ) (g : Graph) (alive : Label → Bool) (root : Label) → IsMap g root → IsInPlace n g root → NoDatumIsBlock g root → NoDatumLeft g root
    → (l m : Label) → IsTrue (has_label (map_labels g root) l) → IsTrue (has_label (edges_at g alive l) m) → IsTrue (has_label (map_labels g root) m)
