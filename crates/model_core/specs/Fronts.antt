-- Fronts: what a domain has seen of the history, and what stays true of the blocks that it knows while others go on.
use Rattle.std.specs.Prelude.{◌≡◌, ◌⊎◌, ℕ, Bool, true, false, List, [], ◌∷◌, ◌++◌, length, drop, Some, IsTrue, not}
use Rattle.std.specs.List.{list_all}
use Rattle.model_core.specs.declared.label.Label.{Label}
use Rattle.model_core.specs.declared.graph.Value.{Value}
use Rattle.model_core.specs.declared.graph.Value.TheVariants.{Block}
use Rattle.model_core.specs.declared.graph.Node.{Node}
use Rattle.model_core.specs.declared.graph.Node.TheVariants.{Plain, Raw, Ephe}
use Rattle.model_core.specs.declared.command.Command.TheVariants.{FullMajor}
use Rattle.model_core.specs.declared.entry.Entry.{Entry}
use Rattle.model_core.specs.declared.entry.Entry.TheVariants.{Command, End, Cut, Seal, Collected, Done, Ran}
use Rattle.model_core.specs.declared.reply.Applied.{Applied}
use Rattle.model_core.specs.declared.state.Mode.TheVariants.{Open}
use Rattle.model_core.specs.declared.state.Sizes.{Sizes}
use Rattle.model_core.specs.declared.state.State.{State}
use Rattle.model_core.specs.Graph.{Graph, node_at}
use Rattle.model_core.specs.Domains.{domain_at, register, opening}
use Rattle.model_core.specs.Entries.{reply}
use Rattle.model_core.specs.History.{state_after, Legal, is_entry_of}

-- none of these entries is one of domain d
abbrev pub NoneOf : ℕ → List Entry → Type 0
NoneOf d h = IsTrue (list_all (λ x. not (is_entry_of d x)) h)

-- the entries of a history behind a front
abbrev pub unseen : List Entry → List Entry → List Entry
unseen history front = drop (length front) history

-- an entry of a domain, and not of the collector
abbrev pub is_call : Entry → Bool
is_call (Command d c full) = true
is_call (End d) = true
is_call (Ran d) = true
is_call _ = false

-- all of these entries are domains'
abbrev pub AreCalls : List Entry → Type 0
AreCalls h = IsTrue (list_all is_call h)

-- an entry by which a collection begins, comes from one part to the next, or ends
abbrev pub is_control : Entry → Bool
is_control Cut = true
is_control Seal = true
is_control Collected = true
is_control Done = true
is_control _ = false

-- none of these entries is one
abbrev pub AreNotControls : List Entry → Type 0
AreNotControls h = IsTrue (list_all (λ x. not (is_control x)) h)

-- whether an entry is a full_major. It alone is made in a pause: a domain runs as it makes any other
abbrev pub is_full_major : Entry → Bool
is_full_major (Command d FullMajor full) = true
is_full_major _ = false

-- the front of domain d begins the history, which goes on without that domain
pub record IsFrontOf (d : ℕ) (history front : List Entry) : Type 0 where
  pub rest : List Entry
  pub appends : history ≡ front ++ rest
  pub others : NoneOf d rest

-- A call of domain d with one entry: its front grows by entries of others and by this one, which comes last, and the answer is that of the state before it. The others are domains', for no entry of the collector comes while a domain runs; but a full_major is answered in a pause, and there some may
pub record Answers (z : Sizes) (d : ℕ) (old new : List Entry) (e : Entry) (answer : Applied) : Type 0 where
  pub between : List Entry
  pub others : NoneOf d between
  pub calls : is_full_major e ≡ false → AreCalls between
  pub appends : new ≡ old ++ between ++ e ∷ []
  pub legal : Legal z new
  pub replies : reply (state_after (opening z) (old ++ between)) e ≡ answer

-- what never changes of a block: of a plain or raw one its number of fields and its tag, of an ephemeron its number of keys
pub data Shape : Type 0 where
  PlainShape : ℕ → ℕ → Shape
  RawShape : ℕ → ℕ → Shape
  EpheShape : ℕ → Shape

abbrev pub shape_of : Node → Shape
shape_of (Plain tag fields) = PlainShape (length fields) tag
shape_of (Raw tag fields) = RawShape (length fields) tag
shape_of (Ephe keys datum) = EpheShape (length keys)

-- each block of the first graph is in the second, with its shape
abbrev pub Grew : Graph → Graph → Type 0
Grew g h = (l : Label) (n : Node) → node_at g l ≡ Some n → (m : Node) × (node_at h l ≡ Some m) × (shape_of m ≡ shape_of n)

-- register r of domain d holds a block of this shape
pub record HoldsShape (s : State) (d r : ℕ) (shape : Shape) : Type 0 where
  pub label : Label
  pub node : Node
  pub held : register s d r ≡ Block label
  pub there : node_at s.graph label ≡ Some node
  pub shape_is : shape_of node ≡ shape

-- register r of domain d holds a plain or a raw block with so many fields
pub record HoldsFields (s : State) (d r count : ℕ) : Type 0 where
  pub label : Label
  pub tag : ℕ
  pub fields : List Value
  pub held : register s d r ≡ Block label
  pub node : (node_at s.graph label ≡ Some (Plain tag fields)) ⊎ (node_at s.graph label ≡ Some (Raw tag fields))
  pub size : length fields ≡ count

-- what only entries of domain d change of it
pub record KeepsDomain (s t : State) (d : ℕ) : Type 0 where
  pub registers : (domain_at t d).registers ≡ (domain_at s d).registers
  pub serial : (domain_at t d).serial ≡ (domain_at s d).serial
  pub ended : (domain_at t d).ended ≡ (domain_at s d).ended

-- no collection has begun, and no finaliser waits in a queue
pub record IsCalm (s : State) : Type 0 where
  pub mode : s.mode ≡ Open
  pub queues : (d : ℕ) → (domain_at s d).queue ≡ []
