-- What one entry does to a map, and what a history of such entries is.
use Rattle.std.specs.Prelude.{◌≡◌, ◌≢◌, ◌⊎◌, ℕ, ◌+◌, ◌<◌, true, false, List, [], ◌∷◌, ◌++◌, length, replicate, slice_index_or, slice_set, pos, Some, None}
use Rattle.model_core.specs.declared.label.Label.{Label}
use Rattle.model_core.specs.declared.entry.Entry.{Entry}
use Rattle.model_core.specs.declared.graph.Value.{Value}
use Rattle.model_core.specs.declared.graph.Value.TheVariants.{Int, Block, Nothing}
use Rattle.model_core.specs.declared.graph.Node.{Node}
use Rattle.model_core.specs.declared.graph.Node.TheVariants.{Plain, Ephe}
use Rattle.model_core.specs.declared.state.Sizes.{Sizes}
use Rattle.model_core.specs.declared.state.State.{State}
use Rattle.model_core.specs.Graph.{Graph, node_at, with_node}
use Rattle.model_core.specs.Entries.{next}
use Rattle.model_core.specs.History.{IsPrefix, is_entry_of}
use Rattle.weak_laws.specs.Tables.Thinning.{IsOutside, Thin, state_of}
use Rattle.weak_laws.specs.Tables.Stages.{graph_of}
use Rattle.weak_laws.specs.Maps.Tries.{inside, at, ends, found, bound_by, way_to, way_length, node_width, is_leaf, IsSlot}

-- a label that was outside reach at some front, from one to a later one
pub record WasUnreached (z : Sizes) (old new : List Entry) (k : Label) : Type 0 where
  pub front : List Entry
  pub since : IsPrefix old front
  pub until : IsPrefix front new
  pub outside : IsOutside (state_of z front) k

-- field i of the block to which p leads is written: it held a value that is no block of the map, and holds new
pub record WritesField (g h : Graph) (root : Label) (p : List ℕ) (i : ℕ) (held new : Value) : Type 0 where
  pub block : Label
  pub tag : ℕ
  pub fields : List Value
  pub there : at (inside g) p (Block root) ≡ Some (Block block)
  pub node : node_at g block ≡ Some (Plain tag fields)
  pub below : i < length fields
  pub was : slice_index_or fields i Nothing ≡ held
  pub end : inside g held ≡ None
  pub now : h ≡ with_node g block (Plain tag (slice_set fields i new))

-- a leaf of a key, which has it, or 0 in place of one, comes into the field at which the key's way ends: the one step by which a put or a take is made
pub record Sets (n : ℕ) (g h : Graph) (root : Label) (k : Label) (new : Value) : Type 0 where
  pub p : List ℕ
  pub i : ℕ
  pub q : List ℕ
  pub way : way_to n k ≡ p ++ i ∷ q
  pub held : Value
  pub writes : WritesField g h root p i held new
  pub leaf : inside g new ≡ None
  pub slot : IsSlot g new
  pub alive : (l : Label) (datum : Value) → new ≡ Block l → node_at g l ≢ Some (Ephe (None ∷ []) datum)
  pub mine : (l : Label) → l ≢ k → (bound_by g l held ≡ None) × (bound_by g l new ≡ None)

-- a fresh block that holds only the leaf comes in the place of a leaf, which stands one step deeper on the way to its key then
pub record Deepens (n : ℕ) (g h : Graph) (root : Label) : Type 0 where
  pub p : List ℕ
  pub i : ℕ
  pub j : ℕ
  pub held : Value
  pub block : Label
  pub writes : WritesField g h root p i held (Block block)
  pub inner : inside g (Block block) ≡ Some (slice_set (replicate node_width (Int (pos 0))) j held)
  pub small : j < node_width
  pub low : length p + 1 < way_length
  pub fresh : (x : List ℕ) → at (inside g) x (Block root) ≢ Some (Block block)
  pub next : (l : Label) → bound_by g l held ≢ None → (q : List ℕ) × (way_to n l ≡ p ++ i ∷ j ∷ q)

-- a leaf that binds nothing is replaced by 0
pub record Clears (g h : Graph) (root : Label) : Type 0 where
  pub p : List ℕ
  pub i : ℕ
  pub held : Value
  pub writes : WritesField g h root p i held (Int (pos 0))
  pub empty : (l : Label) → bound_by g l held ≡ None

-- a value that binds no key, and from which no way leads to one that does
abbrev pub HoldsNothing : Graph → Value → Type 0
HoldsNothing g v = (k : Label) (q : List ℕ) → bound_by g k (ends (inside g) q v) ≡ None

-- a field that holds nothing, a leaf without its key or a block of the map that is spent, is replaced by 0: what a clean does. Others can't rely on blocks that stay where they are then
pub record Empties (g h : Graph) (root : Label) : Type 0 where
  pub p : List ℕ
  pub i : ℕ
  pub held : Value
  pub block : Label
  pub tag : ℕ
  pub fields : List Value
  pub there : at (inside g) p (Block root) ≡ Some (Block block)
  pub node : node_at g block ≡ Some (Plain tag fields)
  pub below : i < length fields
  pub was : slice_index_or fields i Nothing ≡ held
  pub nothing : HoldsNothing g held
  pub now : h ≡ with_node g block (Plain tag (slice_set fields i (Int (pos 0))))

-- each block of a map and each of its leaves is as it was
abbrev pub IsUntouched : Graph → Graph → Label → Type 0
IsUntouched g h root = (p : List ℕ) (l : Label) → at (inside g) p (Block root) ≡ Some (Block l) → node_at h l ≡ node_at g l

-- each is as it was, or a leaf that has lost a key of which P holds, and its datum
abbrev pub IsThinned : (Label → Type 0) → Graph → Graph → Label → Type 0
IsThinned P g h root = (p : List ℕ) (l : Label) (n : Node) → at (inside g) p (Block root) ≡ Some (Block l) → node_at g l ≡ Some n → Thin P n (node_at h l)

-- One entry, in a state of a heap of n domains, does one of these to a map: it leaves it untouched, sets or takes out one key, makes room for one, clears a field,
-- or takes keys that are outside reach, as the collector does
pub data MapStep (n : ℕ) (root : Label) (s : State) (e : Entry) : Type 0 where
  Untouched : IsUntouched s.graph (next s e).graph root → MapStep n root s e
  SetsKey : (k : Label) (new : Value) → Sets n s.graph (next s e).graph root k new → MapStep n root s e
  GoesDeeper : Deepens n s.graph (next s e).graph root → MapStep n root s e
  ClearsField : Clears s.graph (next s e).graph root → MapStep n root s e
  TakesKeys : IsThinned (IsOutside s) s.graph (next s e).graph root → MapStep n root s e

-- what this step leaves of the binding of a key
abbrev pub LeavesBinding : (n : ℕ) (root : Label) (s : State) (e : Entry) → MapStep n root s e → Label → Type 0
LeavesBinding n root s e (Untouched same) l = found n (next s e).graph root l ≡ found n s.graph root l
LeavesBinding n root s e (SetsKey k new set) l = ((l ≡ k) × (found n (next s e).graph root l ≡ bound_by s.graph k new)) ⊎ ((l ≢ k) × (found n (next s e).graph root l ≡ found n s.graph root l))
LeavesBinding n root s e (GoesDeeper deeper) l = found n (next s e).graph root l ≡ found n s.graph root l
LeavesBinding n root s e (ClearsField cleared) l = found n (next s e).graph root l ≡ found n s.graph root l
LeavesBinding n root s e (TakesKeys thinned) l = (found n (next s e).graph root l ≡ found n s.graph root l) ⊎ (IsOutside s l × (found n (next s e).graph root l ≡ None))

-- a leaf that stood in a map at this front or an earlier one is written by nobody but the collector, which may take its key where that is outside reach
abbrev pub SparesLeaves : Sizes → Label → List Entry → Entry → Type 0
SparesLeaves z root front e = (former : List Entry) (p : List ℕ) (l : Label) (n : Node) → IsPrefix former front → at (inside (graph_of z former)) p (Block root) ≡ Some (Block l)
    → is_leaf (node_at (graph_of z former) l) → node_at (graph_of z front) l ≡ Some n → Thin (IsOutside (state_of z front)) n (node_at (next (state_of z front) e).graph l)

-- what calls may rely on of an entry behind a front: it does one of the steps to a map, and spares each leaf that the map had
pub record RespectsMap (z : Sizes) (root : Label) (front : List Entry) (e : Entry) : Type 0 where
  pub step : MapStep z.domains root (state_of z front) e
  pub leaves : SparesLeaves z root front e

-- so does each entry of the new history beyond the old one
abbrev pub AllRespect : Sizes → Label → List Entry → List Entry → Type 0
AllRespect z root old new = (front : List Entry) (e : Entry) → IsPrefix old front → IsPrefix (front ++ e ∷ []) new → RespectsMap z root front e

-- so does each that isn't of domain d: those of other domains, and of the collector
abbrev pub OthersRespect : Sizes → Label → ℕ → List Entry → List Entry → Type 0
OthersRespect z root d old new = (front : List Entry) (e : Entry) → IsPrefix old front → IsPrefix (front ++ e ∷ []) new → is_entry_of d e ≡ false → RespectsMap z root front e

-- so does each that is of domain d
abbrev pub OwnRespect : Sizes → Label → ℕ → List Entry → List Entry → Type 0
OwnRespect z root d old new = (front : List Entry) (e : Entry) → IsPrefix old front → IsPrefix (front ++ e ∷ []) new → is_entry_of d e ≡ true → RespectsMap z root front e

-- each entry that isn't of domain d leaves a map as it is, but for keys of its leaves that are outside reach: no other domain uses the map
abbrev pub OthersLeave : Sizes → Label → ℕ → List Entry → List Entry → Type 0
OthersLeave z root d old new = (front : List Entry) (e : Entry) → IsPrefix old front → IsPrefix (front ++ e ∷ []) new → is_entry_of d e ≡ false → IsThinned (IsOutside (state_of z front)) (graph_of z front) (next (state_of z front) e).graph root
