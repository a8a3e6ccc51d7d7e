-- What calls on a map of a heap of one domain answer and leave, told of the list of its bindings.
use Rattle.std.specs.Prelude.{◌≡◌, ◌≢◌, ◌⊎◌, ◌<◌, ◌≤◌, ℕ, IsTrue, List, [], ◌∷◌, length, Option, Some, None}
use Rattle.model_core.specs.declared.label.Label.{Label}
use Rattle.model_core.specs.declared.entry.Entry.{Entry}
use Rattle.model_core.specs.declared.graph.Value.{Value}
use Rattle.model_core.specs.declared.graph.Value.TheVariants.{Block, Nothing}
use Rattle.model_core.specs.declared.graph.Node.{Node}
use Rattle.model_core.specs.declared.graph.Node.TheVariants.{Ephe}
use Rattle.model_core.specs.declared.reply.Reply.{Reply}
use Rattle.model_core.specs.declared.reply.Reply.TheVariants as reply
use Rattle.model_core.specs.declared.state.Sizes.{Sizes}
use Rattle.model_core.specs.Graph.{has_label, label_of, node_at}
use Rattle.model_core.specs.Commands.{shown}
use Rattle.weak_laws.specs.Tables.Structures.{datum_at, without}
use Rattle.weak_laws.specs.Tables.Thinning.{ThinnedBy, WasOutside}
use Rattle.weak_laws.specs.Tables.Stages.{Goes, graph_of, held_in}
use Rattle.weak_laws.specs.Maps.Calls.{value_of}
use Rattle.weak_laws.specs.Lists.Lists.{map_leaves}
use Rattle.weak_maps.specs.Lists.Stretches.{bound_in, labels_in, IsListed, IsSettled, KeepsLow, ReadsList, WritesMap}

-- `list_put` where it is done: the others are bound as they were, in their order, and the key to the datum, unless it was taken since
pub record ListPuts (z : Sizes) (old new : List Entry) (root k : Label) (v : Value) : Type 0 where
  pub writes : WritesMap z old new root
  pub keeps : KeepsLow z old new
  pub settled : IsSettled z old new
  pub left : ThinnedBy (WasOutside z old new) (without k (bound_in z old root)) (without k (bound_in z new root))
  pub bound : (WasOutside z old new k → ⊥) → datum_at (bound_in z new root) k ≡ Some v

-- a call that changed no binding: blocks for room may have come into the map
pub record ListStays (z : Sizes) (old new : List Entry) (root : Label) : Type 0 where
  pub writes : WritesMap z old new root
  pub keeps : KeepsLow z old new
  pub settled : IsSettled z old new
  pub left : ThinnedBy (WasOutside z old new) (bound_in z old root) (bound_in z new root)

-- `list_put`: `type` exactly where one register holds no label or the other nothing, `full` where an allocation was refused
abbrev pub ListPutAnswers : Sizes → List Entry → List Entry → Label → Option Label → Value → Reply → Type 0
ListPutAnswers z old new root None v r = (r ≡ reply.BadType) × (new ≡ old)
ListPutAnswers z old new root (Some k) Nothing r = (r ≡ reply.BadType) × (new ≡ old)
ListPutAnswers z old new root (Some k) v r = ((r ≡ reply.Done) × ListPuts z old new root k v) ⊎ ((r ≡ reply.Full) × ListStays z old new root)

-- `list_take` where it is done: the key was bound, and what is left is the list without it
pub record ListTakes (z : Sizes) (old new : List Entry) (root k : Label) : Type 0 where
  pub writes : WritesMap z old new root
  pub keeps : KeepsLow z old new
  pub settled : IsSettled z old new
  pub was : Value
  pub bound : datum_at (bound_in z old root) k ≡ Some was
  pub left : ThinnedBy (WasOutside z old new) (without k (bound_in z old root)) (bound_in z new root)
  pub none : datum_at (bound_in z new root) k ≡ None

-- `list_take`: `type` exactly where the register holds no label, `none` exactly where the key isn't bound
abbrev pub ListTakeAnswers : Sizes → List Entry → List Entry → Label → Option Label → Reply → Type 0
ListTakeAnswers z old new root None r = (r ≡ reply.BadType) × (new ≡ old)
ListTakeAnswers z old new root (Some k) r =
    ((r ≡ reply.Done) × ListTakes z old new root k)
    ⊎ ((r ≡ reply.Empty) × ListStays z old new root × (datum_at (bound_in z new root) k ≡ None))

-- `list_get`: what the key was bound to at a front on the way, or nothing, in a register
pub record ListGets (z : Sizes) (old new : List Entry) (root k : Label) (dst : ℕ) (r : Reply) : Type 0 where
  pub reads : ReadsList z old new root
  pub keeps : (i : ℕ) → i < 8 → i ≢ dst → held_in z new i ≡ held_in z old i
  pub settled : IsSettled z old new
  pub front : List Entry
  pub before : ReadsList z old front root
  pub behind : ReadsList z front new root
  pub found : Option Value
  pub bound : datum_at (bound_in z front root) k ≡ found
  pub answers : r ≡ shown (value_of found)
  pub holds : held_in z new dst ≡ value_of found

-- `list_get`: `type` exactly where the register holds no label
abbrev pub ListGetAnswers : Sizes → List Entry → List Entry → Label → ℕ → Option Label → Reply → Type 0
ListGetAnswers z old new root dst None r = (r ≡ reply.BadType) × (new ≡ old)
ListGetAnswers z old new root dst (Some k) r = ListGets z old new root k dst r

-- a leaf of one key without a datum where it has no key
abbrev pub IsTidyLeaf : Option Node → Type 0
IsTidyLeaf (Some (Ephe (Some k ∷ []) datum)) = Unit {0}
IsTidyLeaf (Some (Ephe (None ∷ []) datum)) = datum ≡ Nothing
IsTidyLeaf n = ⊥

-- `list_clean`: no binding is changed, and a leaf that has no key has no datum
pub record ListCleans (z : Sizes) (old new : List Entry) (root : Label) : Type 0 where
  pub stays : ListStays z old new root
  pub tidy : (l : Label) → IsTrue (has_label (map_leaves (graph_of z new) root) l) → IsTidyLeaf (node_at (graph_of z new) l)

-- `list_make`: a new map that binds nothing, in a register
pub record ListMakes (z : Sizes) (old new : List Entry) (dst : ℕ) (root : Label) : Type 0 where
  pub goes : Goes z old new []
  pub listed : IsListed z new root
  pub keeps : (i : ℕ) → i ≢ dst → held_in z new i ≡ held_in z old i
  pub settled : IsSettled z old new
  pub holds : held_in z new dst ≡ Block root
  pub fresh : node_at (graph_of z old) root ≡ None
  pub empty : bound_in z new root ≡ []
  pub alone : labels_in z new root ≡ root ∷ []

-- `map_count`: the number of bindings at some front, up to which and from which on no block was written
pub record ListCounts (z : Sizes) (old new : List Entry) (root : Label) (count : ℕ) : Type 0 where
  pub reads : ReadsList z old new root
  pub keeps : KeepsLow z old new
  pub settled : IsSettled z old new
  pub front : List Entry
  pub before : Goes z old front []
  pub behind : Goes z front new []
  pub number : length (bound_in z front root) ≡ count
  pub many : count ≤ length (bound_in z old root)
  pub few : length (bound_in z new root) ≤ count

-- what a call answers and leaves of whatever map stands in a register when it begins
abbrev pub ListPutsAt : Sizes → List Entry → List Entry → ℕ → ℕ → ℕ → Reply → Type 0
ListPutsAt z old new map key item r = (root : Label) → held_in z old map ≡ Block root → IsListed z old root → ListPutAnswers z old new root (label_of (held_in z old key)) (held_in z old item) r

abbrev pub ListGetsAt : Sizes → List Entry → List Entry → ℕ → ℕ → ℕ → Reply → Type 0
ListGetsAt z old new dst map key r = (root : Label) → held_in z old map ≡ Block root → IsListed z old root → ListGetAnswers z old new root dst (label_of (held_in z old key)) r

abbrev pub ListTakesAt : Sizes → List Entry → List Entry → ℕ → ℕ → Reply → Type 0
ListTakesAt z old new map key r = (root : Label) → held_in z old map ≡ Block root → IsListed z old root → ListTakeAnswers z old new root (label_of (held_in z old key)) r

abbrev pub ListCleansAt : Sizes → List Entry → List Entry → ℕ → Type 0
ListCleansAt z old new map = (root : Label) → held_in z old map ≡ Block root → IsListed z old root → ListCleans z old new root

abbrev pub ListCountsAt : Sizes → List Entry → List Entry → ℕ → ℕ → Type 0
ListCountsAt z old new map count = (root : Label) → held_in z old map ≡ Block root → IsListed z old root → ListCounts z old new root count

-- or the allocation was refused: all registers are as they were
pub record ListMakesNone (z : Sizes) (old new : List Entry) : Type 0 where
  pub goes : Goes z old new []
  pub keeps : (i : ℕ) → held_in z new i ≡ held_in z old i
  pub settled : IsSettled z old new

-- `list_make`: the new map's block, or `full`
abbrev pub ListMakeAnswers : Sizes → List Entry → List Entry → ℕ → Reply → Type 0
ListMakeAnswers z old new dst r = ((root : Label) × (r ≡ reply.Block root) × ListMakes z old new dst root) ⊎ ((r ≡ reply.Full) × ListMakesNone z old new)
