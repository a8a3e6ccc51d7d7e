-- How many blocks a map has that was cleaned.
use Rattle.std.specs.Prelude.{◌≡◌, ◌≢◌, ◌⊎◌, ◌≤◌, ◌*◌, ℕ, Bool, IsTrue, List, [], ◌∷◌, ◌++◌, length, Some, None}
use Rattle.model_core.specs.declared.label.Label.{Label}
use Rattle.model_core.specs.declared.entry.Entry.{Entry}
use Rattle.model_core.specs.declared.graph.Value.{Value}
use Rattle.model_core.specs.declared.graph.Value.TheVariants.{Block}
use Rattle.model_core.specs.declared.state.Sizes.{Sizes}
use Rattle.model_core.specs.Graph.{Graph, has_label, node_at}
use Rattle.weak_laws.specs.Tables.Stages.{graph_of}
use Rattle.weak_laws.specs.Maps.Tries.{at, bound_by, inside, is_leaf, IsInPlace, IsMap}
use Rattle.weak_laws.specs.Maps.Calls.{bound_after, CleanAnswers, IsTidy}

-- a place is one of these
abbrev pub IsIn : List ℕ → List (List ℕ) → Type 0
IsIn p [] = ⊥
IsIn p (q ∷ qs) = (p ≡ q) ⊎ IsIn p qs

-- none is there twice
abbrev pub AreDistinct : List (List ℕ) → Type 0
AreDistinct [] = Unit {0}
AreDistinct (p ∷ ps) = (IsIn p ps → ⊥) × AreDistinct ps

-- at a place stands a block of the map that isn't its first
abbrev pub IsInner : Graph → Label → List ℕ → Type 0
IsInner g root p = (p ≢ []) × ((l : Label) × (fields : List Value) × (at (inside g) p (Block root) ≡ Some (Block l)) × (inside g (Block l) ≡ Some fields))

-- at a place stands a leaf
abbrev pub IsLeafAt : Graph → Label → List ℕ → Type 0
IsLeafAt g root p = (l : Label) × (at (inside g) p (Block root) ≡ Some (Block l)) × is_leaf (node_at g l)

-- in a map without spent blocks each block but the first stands on the way to a leaf
abbrev pub TidyBlocksLead : Type 0
TidyBlocksLead = (z : Sizes) (h : List Entry) (root : Label) → IsMap (graph_of z h) root → IsTidy (graph_of z h) root → (p : List ℕ) → IsInner (graph_of z h) root p → (r : List ℕ) × IsLeafAt (graph_of z h) root (p ++ r)

-- so there are at most six for each key that is bound, where each leaf binds one of these keys, and stands on its way
abbrev pub TidyBlocksAreFew : Type 0
TidyBlocksAreFew = (z : Sizes) (h : List Entry) (root : Label) → IsMap (graph_of z h) root → IsTidy (graph_of z h) root → (keys : List Label)
    → ((p : List ℕ) (l : Label) → at (inside (graph_of z h)) p (Block root) ≡ Some (Block l) → is_leaf (node_at (graph_of z h) l) → (k : Label) × IsTrue (has_label keys k) × (bound_by (graph_of z h) k (Block l) ≢ None))
    → IsInPlace z.domains (graph_of z h) root
    → (blocks : List (List ℕ)) → AreDistinct blocks → ((p : List ℕ) → IsIn p blocks → IsInner (graph_of z h) root p) → length blocks ≤ 6 * length keys

-- so a clean leaves at most six for each key that was bound when it began
abbrev pub CleanedBlocksAreFew : Type 0
CleanedBlocksAreFew = (z : Sizes) (root : Label) (d : ℕ) (old new : List Entry) (empty : Bool) → IsInPlace z.domains (graph_of z old) root → IsMap (graph_of z new) root → CleanAnswers z root d old new empty
    → (keys : List Label) → ((k : Label) → bound_after z root old k ≢ None → IsTrue (has_label keys k))
    → (blocks : List (List ℕ)) → AreDistinct blocks → ((p : List ℕ) → IsIn p blocks → IsInner (graph_of z new) root p) → length blocks ≤ 6 * length keys

-- and no more leaves than such keys
abbrev pub CleanedLeavesAreFew : Type 0
CleanedLeavesAreFew = (z : Sizes) (root : Label) (d : ℕ) (old new : List Entry) (empty : Bool) → IsInPlace z.domains (graph_of z old) root → CleanAnswers z root d old new empty
    → (keys : List Label) → ((k : Label) → bound_after z root old k ≢ None → IsTrue (has_label keys k))
    → (leaves : List (List ℕ)) → AreDistinct leaves → ((p : List ℕ) → IsIn p leaves → IsLeafAt (graph_of z new) root p) → length leaves ≤ length keys
