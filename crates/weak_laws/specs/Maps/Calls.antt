-- What a call of one domain answers about a map, beside whatever other domains and the collector do between its entries.
use Rattle.std.specs.Prelude.{◌≡◌, ◌≢◌, ◌⊎◌, ◌<◌, ℕ, Bool, true, false, List, [], ◌∷◌, ◌++◌, slice_index_or, pos, Option, Some, None}
use Rattle.model_core.specs.declared.label.Label.{Label}
use Rattle.model_core.specs.declared.command.Command as declared_command
use Rattle.model_core.specs.declared.entry.Entry.{Entry}
use Rattle.model_core.specs.declared.entry.Entry.TheVariants.{Command}
use Rattle.model_core.specs.declared.graph.Value.{Value}
use Rattle.model_core.specs.declared.graph.Value.TheVariants.{Int, Block, Nothing}
use Rattle.model_core.specs.declared.reply.Reply.{Reply}
use Rattle.model_core.specs.declared.reply.Reply.TheVariants as reply
use Rattle.model_core.specs.declared.reply.Applied.TheVariants.{Replied}
use Rattle.model_core.specs.declared.state.Sizes.{Sizes}
use Rattle.model_core.specs.declared.graph.Node.TheVariants.{Ephe}
use Rattle.model_core.specs.Graph.{Graph, node_at}
use Rattle.model_core.specs.Commands.{shown}
use Rattle.model_core.specs.Domains.{domain_at}
use Rattle.model_core.specs.Entries.{reply as reply_of}
use Rattle.model_core.specs.Fronts.{NoneOf}
use Rattle.model_core.specs.History.{IsPrefix, Legal, is_entry_of}
use Rattle.weak_laws.specs.Tables.Thinning.{state_of}
use Rattle.weak_laws.specs.Tables.Stages.{graph_of}
use Rattle.weak_laws.specs.Maps.Tries.{at, found, inside, is_leaf, node_width, root_width}
use Rattle.weak_laws.specs.Maps.Steps.{OwnRespect}

-- what a map binds a key to after a history
abbrev pub bound_after : Sizes → Label → List Entry → Label → Option Value
bound_after z root h k = found z.domains (graph_of z h) root k

-- a bound datum as a value: nothing where there is none
abbrev pub value_of : Option Value → Value
value_of None = Nothing
value_of (Some v) = v

-- from one front to a later one, entries of domain d change no binding of a map
abbrev pub OwnKeep : Sizes → Label → ℕ → List Entry → List Entry → Type 0
OwnKeep z root d old new = (front : List Entry) (e : Entry) → IsPrefix old front → IsPrefix (front ++ e ∷ []) new → is_entry_of d e ≡ true
    → (l : Label) → bound_after z root (front ++ e ∷ []) l ≡ bound_after z root front l

-- a call changes no binding, and does to the map only what others may rely on
pub record Looks (z : Sizes) (root : Label) (d : ℕ) (old new : List Entry) : Type 0 where
  pub keeps : OwnKeep z root d old new
  pub respects : OwnRespect z root d old new

-- one entry of a call changes one binding: the key is bound so afterwards, each other key as before, and no other entry of the call changes any
pub record ChangesOne (z : Sizes) (root : Label) (d : ℕ) (old new : List Entry) (k : Label) (before after : Option Value) : Type 0 where
  pub front : List Entry
  pub entry : Entry
  pub since : IsPrefix old front
  pub until : IsPrefix (front ++ entry ∷ []) new
  pub own : is_entry_of d entry ≡ true
  pub was : bound_after z root front k ≡ before
  pub binds : bound_after z root (front ++ entry ∷ []) k ≡ after
  pub others : (l : Label) → l ≢ k → bound_after z root (front ++ entry ∷ []) l ≡ bound_after z root front l
  pub first : OwnKeep z root d old front
  pub last : OwnKeep z root d (front ++ entry ∷ []) new
  pub respects : OwnRespect z root d old new

-- a lookup answers what the map bound the key to at a front of the call
pub record Gets (z : Sizes) (root : Label) (d : ℕ) (old new : List Entry) (k : Label) (datum : Option Value) : Type 0 where
  pub looks : Looks z root d old new
  pub front : List Entry
  pub since : IsPrefix old front
  pub until : IsPrefix front new
  pub bound : bound_after z root front k ≡ datum

-- `get`, by what the register of the key holds: `type` exactly where it is no label, `none` exactly where the key isn't bound, else its datum
abbrev pub GetAnswers : Sizes → Label → ℕ → List Entry → List Entry → Value → Reply → Type 0
GetAnswers z root d old new (Block k) r = (datum : Option Value) × Gets z root d old new k datum × (r ≡ shown (value_of datum))
GetAnswers z root d old new key r = (r ≡ reply.BadType) × (new ≡ old)

-- `put` of a datum: done, or `full`, and then no binding is changed
abbrev pub PutsOrFull : Sizes → Label → ℕ → List Entry → List Entry → Label → Value → Reply → Type 0
PutsOrFull z root d old new k v r =
    ((r ≡ reply.Done) × ((before : Option Value) × ChangesOne z root d old new k before (Some v)))
    ⊎ ((r ≡ reply.Full) × Looks z root d old new)

-- `put`, by what the registers of the key and of the datum hold: `type` exactly where the first is no label or the second nothing
abbrev pub PutAnswers : Sizes → Label → ℕ → List Entry → List Entry → Value → Value → Reply → Type 0
PutAnswers z root d old new (Block k) (Int i) r = PutsOrFull z root d old new k (Int i) r
PutAnswers z root d old new (Block k) (Block l) r = PutsOrFull z root d old new k (Block l) r
PutAnswers z root d old new (Block k) Nothing r = (r ≡ reply.BadType) × (new ≡ old)
PutAnswers z root d old new key v r = (r ≡ reply.BadType) × (new ≡ old)

-- `take`: done, where the key was bound just before, or `none`, where it was unbound at a front of the call
abbrev pub TakeAnswers : Sizes → Label → ℕ → List Entry → List Entry → Value → Reply → Type 0
TakeAnswers z root d old new (Block k) r =
    ((r ≡ reply.Done) × ((was : Value) × ChangesOne z root d old new k (Some was) None))
    ⊎ ((r ≡ reply.Empty) × Gets z root d old new k None)
TakeAnswers z root d old new key r = (r ≡ reply.BadType) × (new ≡ old)

-- whether none of so many fields holds anything but 0
abbrev pub AreZero : Bool → ℕ → List Value → Type 0
AreZero true n fields = (j : ℕ) → j < n → slice_index_or fields j Nothing ≡ Int (pos 0)
AreZero false n fields = (j : ℕ) × (j < n) × (slice_index_or fields j Nothing ≢ Int (pos 0))

-- each block of a map but its root holds something: no block is spent
abbrev pub IsTidy : Graph → Label → Type 0
IsTidy g root = (i : ℕ) (q : List ℕ) (u : Value) (fields : List Value) → at (inside g) (i ∷ q) (Block root) ≡ Some u → inside g u ≡ Some fields → (j : ℕ) × (j < node_width) × (slice_index_or fields j Nothing ≢ Int (pos 0))

-- at a place of a map stands a leaf that has its key
pub record HasKey (g : Graph) (root : Label) (p : List ℕ) (l : Label) : Type 0 where
  pub there : at (inside g) p (Block root) ≡ Some (Block l)
  pub key : Label
  pub datum : Value
  pub node : node_at g l ≡ Some (Ephe (Some key ∷ []) datum)

-- each leaf that a map has at a later front stood at its place at an earlier one, and had its key then
abbrev pub HadKeys : Sizes → Label → List Entry → List Entry → Type 0
HadKeys z root old new = (p : List ℕ) (l : Label) → at (inside (graph_of z new)) p (Block root) ≡ Some (Block l) → is_leaf (node_at (graph_of z new) l) → HasKey (graph_of z old) root p l

-- `clean` changes no binding, leaves no block that is spent and no leaf that had lost its key when it began, and answers whether the map holds nothing any more
pub record CleanAnswers (z : Sizes) (root : Label) (d : ℕ) (old new : List Entry) (empty : Bool) : Type 0 where
  pub keeps : OwnKeep z root d old new
  pub tidy : IsTidy (graph_of z new) root
  pub live : HadKeys z root old new
  pub fields : List Value
  pub plain : inside (graph_of z new) (Block root) ≡ Some fields
  pub holds : AreZero empty root_width fields

-- one command of domain d: the front has grown by entries of others and then by this command, and the reply is that of the state before it
pub record PerformedBy (z : Sizes) (d : ℕ) (old new : List Entry) (c : declared_command.Command) (r : Reply) : Type 0 where
  pub between : List Entry
  pub others : NoneOf d between
  pub full : Bool
  pub appends : new ≡ old ++ between ++ Command d c full ∷ []
  pub legal : Legal z new
  pub replies : reply_of (state_of z (old ++ between)) (Command d c full) ≡ Replied r

-- what the registers of domain d hold after a history
abbrev pub registers_after : Sizes → ℕ → List Entry → List Value
registers_after z d h = (domain_at (state_of z h) d).registers
