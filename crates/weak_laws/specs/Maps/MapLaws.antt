-- Laws of maps, in the words in which a reader would ask for them.
use Rattle.std.specs.Prelude.{◌≡◌, ◌≢◌, ◌⊎◌, ℕ, ◌<◌, ◌≤◌, IsTrue, List, [], ◌∷◌, ◌++◌, length, replicate, slice_index_or, pos, Option, Some, None}
use Rattle.model_core.specs.declared.label.Label.{Label}
use Rattle.model_core.specs.declared.entry.Entry.{Entry}
use Rattle.model_core.specs.declared.entry.Entry.TheVariants.{Collected}
use Rattle.model_core.specs.declared.graph.Value.{Value}
use Rattle.model_core.specs.declared.graph.Value.TheVariants.{Int, Block, Nothing}
use Rattle.model_core.specs.declared.graph.Node.{Node}
use Rattle.model_core.specs.declared.graph.Node.TheVariants.{Plain, Ephe}
use Rattle.model_core.specs.declared.state.Sizes.{Sizes}
use Rattle.model_core.specs.declared.state.State.{State}
use Rattle.model_core.specs.Graph.{Graph, has_label, node_at}
use Rattle.model_core.specs.Domains.{with_block, reach}
use Rattle.model_core.specs.Entries.{next}
use Rattle.model_core.specs.Fronts.{NoneOf}
use Rattle.model_core.specs.History.{IsPrefix, Legal}
use Rattle.weak_laws.specs.Tables.Thinning.{Thin, WasOutside, state_of}
use Rattle.weak_laws.specs.Tables.Stages.{Goes, graph_of}
use Rattle.weak_laws.specs.Maps.Tries.{inside, at, found, bound_by, way_to, way_length, root_width, IsLabelOf, IsMap, IsTree}
use Rattle.weak_laws.specs.Maps.Steps.{WasUnreached, WritesField, Sets, Deepens, Clears, Empties, MapStep, LeavesBinding, AllRespect, OthersLeave, OthersRespect}
use Rattle.weak_laws.specs.Maps.Calls.{bound_after, ChangesOne, Gets}
use Rattle.weak_laws.specs.Maps.Private.{IsPrivate}

-- where a leaf of a key is set, or taken out, the key is bound as the new value binds it, and every other key as before
abbrev pub SetBinds : Type 0
SetBinds = (n : ℕ) (g h : Graph) (root k : Label) (new : Value) → IsMap g root → Sets n g h root k new
    → (found n h root k ≡ bound_by g k new) × ((l : Label) → l ≢ k → found n h root l ≡ found n g root l)

-- a leaf that goes one step deeper changes no binding
abbrev pub DeepenKeeps : Type 0
DeepenKeeps = (n : ℕ) (g h : Graph) (root : Label) → IsMap g root → Deepens n g h root → (l : Label) → found n h root l ≡ found n g root l

-- a block of a map stays where it is, whichever of its fields another call writes
abbrev pub BlocksStay : Type 0
BlocksStay = (g h : Graph) (root : Label) (p : List ℕ) (i : ℕ) (held new : Value) → IsTree (inside g) (Block root) → WritesField g h root p i held new
    → (q : List ℕ) (u : Value) (fields : List Value) → at (inside g) q (Block root) ≡ Some u → inside g u ≡ Some fields → at (inside h) q (Block root) ≡ Some u

-- one read answers for the whole map: where a block on a key's way holds no block in the next field, that field binds the key or nothing does
abbrev pub ReadTells : Type 0
ReadTells = (n : ℕ) (g : Graph) (root k : Label) (p : List ℕ) (i : ℕ) (q : List ℕ) (u held : Value) (fields : List Value) → way_to n k ≡ p ++ i ∷ q → at (inside g) p (Block root) ≡ Some u
    → inside g u ≡ Some fields → slice_index_or fields i Nothing ≡ held → inside g held ≡ None → found n g root k ≡ bound_by g k held

-- from one front to a later one between which no call wrote a block, the collector took only bindings of keys that were outside reach
abbrev pub CollectorTakes : Type 0
CollectorTakes = (z : Sizes) (old new : List Entry) (root : Label) → Goes z old new [] → IsMap (graph_of z old) root → (k : Label)
    → (bound_after z root new k ≡ bound_after z root old k) ⊎ (WasOutside z old new k × (bound_after z root new k ≡ None))

-- a leaf that binds nothing is taken out: no binding changes
abbrev pub ClearKeeps : Type 0
ClearKeeps = (n : ℕ) (g h : Graph) (root : Label) → IsMap g root → Clears g h root → (l : Label) → found n h root l ≡ found n g root l

-- a field that holds nothing is replaced by 0: no binding changes, and a map is a map
abbrev pub EmptyKeeps : Type 0
EmptyKeeps = (n : ℕ) (g h : Graph) (root : Label) → IsMap g root → Empties g h root → IsMap h root × ((l : Label) → found n h root l ≡ found n g root l)

-- after each step a map is a map
abbrev pub MapStays : Type 0
MapStays = (n : ℕ) (root : Label) (s : State) (e : Entry) → IsMap s.graph root → MapStep n root s e → IsMap (next s e).graph root

-- and each of its blocks stands where it stood
abbrev pub PlacesStay : Type 0
PlacesStay = (n : ℕ) (root : Label) (s : State) (e : Entry) → IsMap s.graph root → MapStep n root s e
    → (q : List ℕ) (u : Value) (fields : List Value) → at (inside s.graph) q (Block root) ≡ Some u → inside s.graph u ≡ Some fields → at (inside (next s e).graph) q (Block root) ≡ Some u

-- each step leaves of each key's binding what it is said to leave
abbrev pub StepTells : Type 0
StepTells = (n : ℕ) (root : Label) (s : State) (e : Entry) → IsMap s.graph root → (step : MapStep n root s e) → (l : Label) → LeavesBinding n root s e step l

-- in a heap of one domain nobody but that domain does anything to a map, apart from the collector: each entry of others respects it
abbrev pub AloneRespects : Type 0
AloneRespects = (z : Sizes) (root : Label) (old new : List Entry) → z.domains ≡ 1 → Legal z new → OthersRespect z root 0 old new

-- and leaves each map as it is, but for keys that are outside reach
abbrev pub AloneLeaves : Type 0
AloneLeaves = (z : Sizes) (root : Label) (old new : List Entry) → z.domains ≡ 1 → Legal z new → OthersLeave z root 0 old new

-- no two keys have one way
abbrev pub WaysDiffer : Type 0
WaysDiffer = (n : ℕ) (k l : Label) → n ≤ 8 → IsLabelOf n k → IsLabelOf n l → way_to n k ≡ way_to n l → k ≡ l

-- so the ways of two keys part before they end: a leaf may always go one block deeper
abbrev pub WaysPart : Type 0
WaysPart = (n : ℕ) (k l : Label) → n ≤ 8 → IsLabelOf n k → IsLabelOf n l → k ≢ l → (p x y : List ℕ) → way_to n k ≡ p ++ x → way_to n l ≡ p ++ y → length p < way_length

-- an entry behind a front sets this key
abbrev pub SetsAt : Sizes → Label → List Entry → Entry → Label → Value → Type 0
SetsAt z root front e k v = Sets z.domains (graph_of z front) (next (state_of z front) e).graph root k v

-- no entry from one front to a later one sets it
abbrev pub NoneSets : Sizes → Label → List Entry → List Entry → Label → Type 0
NoneSets z root old new k = (front : List Entry) (e : Entry) → IsPrefix old front → IsPrefix (front ++ e ∷ []) new → (v : Value) → SetsAt z root front e k v → ⊥

-- a key is bound to this at the later front, or it was outside reach between and is unbound
abbrev pub BoundOrTaken : Sizes → Label → List Entry → List Entry → Label → Option Value → Type 0
BoundOrTaken z root old new k datum = (bound_after z root new k ≡ datum) ⊎ (WasUnreached z old new k × (bound_after z root new k ≡ None))

-- what a map binds a key to is what the last entry that set it put, unless the key was outside reach since
abbrev pub LookupAnswersLastPut : Type 0
LookupAnswersLastPut = (z : Sizes) (root : Label) (old new : List Entry) → AllRespect z root old new → IsMap (graph_of z old) root
    → (k : Label) (front : List Entry) (e : Entry) (v : Value) → IsPrefix old front → IsPrefix (front ++ e ∷ []) new → SetsAt z root front e k v → NoneSets z root (front ++ e ∷ []) new k
    → BoundOrTaken z root (front ++ e ∷ []) new k (bound_by (graph_of z front) k v)

-- a binding whose key is reached at each front from then on, and which no entry sets, is found
abbrev pub HeldBindingIsFound : Type 0
HeldBindingIsFound = (z : Sizes) (root : Label) (old new : List Entry) → IsPrefix old new → AllRespect z root old new → IsMap (graph_of z old) root
    → (k : Label) (v : Value) → bound_after z root old k ≡ Some v → NoneSets z root old new k
    → ((front : List Entry) → IsPrefix old front → IsPrefix front new → IsTrue (has_label (reach (state_of z front)) k)) → bound_after z root new k ≡ Some v

-- and a map is a map all along
abbrev pub RespectedMapStays : Type 0
RespectedMapStays = (z : Sizes) (root : Label) (old new : List Entry) → IsPrefix old new → AllRespect z root old new → IsMap (graph_of z old) root → IsMap (graph_of z new) root

-- after a complete collection in which a map is reached, each key that it binds is reached
abbrev pub CollectedKeysAreReached : Type 0
CollectedKeysAreReached = (z : Sizes) (h : List Entry) → Legal z (h ++ Collected ∷ []) → let s = state_of z (h ++ Collected ∷ []) in
    (root : Label) → IsTrue (has_label (reach s) root) → (k : Label) → found z.domains s.graph root k ≢ None → IsTrue (has_label (reach s) k)

-- no binding keeps its own key alive: a key that is reached is reached without the datum of a leaf of it
abbrev pub DatumKeepsNoKey : Type 0
DatumKeepsNoKey = (z : Sizes) (h : List Entry) (l k : Label) (datum : Value) → node_at (graph_of z h) l ≡ Some (Ephe (Some k ∷ []) datum)
    → IsTrue (has_label (reach (state_of z h)) k) → IsTrue (has_label (reach (with_block (state_of z h) l (Ephe (Some k ∷ []) Nothing))) k)

-- what a put put, a later lookup of any domain answers, as long as the key is reached and no entry sets it between
abbrev pub PutIsFound : Type 0
PutIsFound = (z : Sizes) (root : Label) (d reader : ℕ) (old mid new : List Entry) (k : Label) (v : Value) (before datum : Option Value) → AllRespect z root old new → IsMap (graph_of z old) root
    → IsPrefix old mid → IsPrefix mid new → (put : ChangesOne z root d old mid k before (Some v)) → Gets z root reader mid new k datum → NoneSets z root (put.front ++ put.entry ∷ []) new k
    → ((front : List Entry) → IsPrefix (put.front ++ put.entry ∷ []) front → IsPrefix front new → IsTrue (has_label (reach (state_of z front)) k)) → datum ≡ Some v

-- a root whose fields are 0 is a map, and binds nothing
abbrev pub NewMapIsEmpty : Type 0
NewMapIsEmpty = (n : ℕ) (g : Graph) (root : Label) (tag : ℕ) → node_at g root ≡ Some (Plain tag (replicate root_width (Int (pos 0)))) → IsMap g root × ((k : Label) → found n g root k ≡ None)

-- over entries of others a block that domain d alone holds stays so. It is as it was, or an ephemeron that has lost a key which was outside reach
abbrev pub PrivateStays : Type 0
PrivateStays = (z : Sizes) (d : ℕ) (l : Label) (old between : List Entry) (n : Node) → NoneOf d between → Legal z (old ++ between) → IsPrivate (state_of z old) d l → node_at (graph_of z old) l ≡ Some n
    → IsPrivate (state_of z (old ++ between)) d l × Thin (WasUnreached z old (old ++ between)) n (node_at (graph_of z (old ++ between)) l)

-- and it stands in no map
abbrev pub PrivateStandsNowhere : Type 0
PrivateStandsNowhere = (z : Sizes) (d : ℕ) (l root : Label) (h : List Entry) → IsPrivate (state_of z h) d l → root ≢ l → (p : List ℕ) → at (inside (graph_of z h)) p (Block root) ≢ Some (Block l)
