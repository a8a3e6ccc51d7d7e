-- What the calls on what keeps bindings answer and leave, said of the list of its bindings.
use Rattle.std.specs.Prelude.{◌≡◌, ◌≢◌, ◌⊎◌, ◌<◌, ◌≤◌, ℕ, IsTrue, List, [], length, Option, Some, None}
use Rattle.model_core.specs.declared.label.Label.{Label}
use Rattle.model_core.specs.declared.entry.Entry.{Entry}
use Rattle.model_core.specs.declared.graph.Value.{Value}
use Rattle.model_core.specs.declared.graph.Value.TheVariants.{Block, Nothing}
use Rattle.model_core.specs.declared.reply.Reply.{Reply}
use Rattle.model_core.specs.declared.reply.Reply.TheVariants as reply
use Rattle.model_core.specs.declared.state.Sizes.{Sizes}
use Rattle.model_core.specs.Graph.{has_label, label_of, node_at}
use Rattle.model_core.specs.Commands.{shown}
use Rattle.model_core.specs.History.{IsPrefix}
use Rattle.weak_laws.specs.Tables.Structures.{Binding, datum_at, without}
use Rattle.weak_laws.specs.Tables.Thinning.{ThinnedBy, WasOutside}
use Rattle.weak_laws.specs.Tables.Stages.{Goes, graph_of, held_in}
use Rattle.weak_laws.specs.Maps.Calls.{value_of}
use Rattle.weak_maps.specs.Lists.Stretches.{IsSettled, KeepsLow}
use Rattle.weak_maps.specs.Lists.Answers.{ListCleansAt}
use Rattle.table_text.specs.declared.version.Version.{Version}
use Rattle.table_text.specs.declared.version.Version.TheVariants.{One, Two}
use Rattle.table_run.specs.Keepers.Keepers.{Shape, IsKeeper, kept_bindings, kept_labels}

-- what is bound after a history
abbrev pub bound_in : (v : Version) → Shape v → Sizes → List Entry → Label → List Binding
bound_in v shape z h root = kept_bindings v shape (graph_of z h) root

-- no block was written but the keeper's, and what came to it is new. Registers below 8 hold what they held
pub record Writes (v : Version) (z : Sizes) (old new : List Entry) (root : Label) (shape : Shape v) : Type 0 where
  pub goes : Goes z old new (kept_labels v shape (graph_of z old) root)
  pub low : KeepsLow z old new
  pub settled : IsSettled z old new
  pub now : Shape v
  pub keeper : IsKeeper v now z.domains (graph_of z new) root
  pub labels : (l : Label) → IsTrue (has_label (kept_labels v now (graph_of z new) root) l) → IsTrue (has_label (kept_labels v shape (graph_of z old) root) l) ⊎ (node_at (graph_of z old) l ≡ None)

-- no binding was changed, but what the collector took is gone
pub record Stays (v : Version) (z : Sizes) (old new : List Entry) (root : Label) (shape : Shape v) : Type 0 where
  pub writes : Writes v z old new root shape
  pub left : ThinnedBy (WasOutside z old new) (bound_in v shape z old root) (bound_in v writes.now z new root)

-- a key was bound to a datum, unless it was taken since; the others are bound as they were, in their order
pub record Puts (v : Version) (z : Sizes) (old new : List Entry) (root : Label) (shape : Shape v) (k : Label) (datum : Value) : Type 0 where
  pub writes : Writes v z old new root shape
  pub left : ThinnedBy (WasOutside z old new) (without k (bound_in v shape z old root)) (without k (bound_in v writes.now z new root))
  pub bound : (WasOutside z old new k → ⊥) → datum_at (bound_in v writes.now z new root) k ≡ Some datum

-- `keeper_put`: `type` exactly where one register holds no label or the other nothing, `full` where an allocation was refused
abbrev pub PutAnswers : (v : Version) → Sizes → List Entry → List Entry → Label → Shape v → Option Label → Value → Reply → Type 0
PutAnswers v z old new root shape None datum r = (r ≡ reply.BadType) × (new ≡ old)
PutAnswers v z old new root shape (Some k) Nothing r = (r ≡ reply.BadType) × (new ≡ old)
PutAnswers v z old new root shape (Some k) datum r = ((r ≡ reply.Done) × Puts v z old new root shape k datum) ⊎ ((r ≡ reply.Full) × Stays v z old new root shape)

-- the binding of a key was taken out
pub record Takes (v : Version) (z : Sizes) (old new : List Entry) (root : Label) (shape : Shape v) (k : Label) : Type 0 where
  pub writes : Writes v z old new root shape
  pub was : Value
  pub bound : datum_at (bound_in v shape z old root) k ≡ Some was
  pub left : ThinnedBy (WasOutside z old new) (without k (bound_in v shape z old root)) (bound_in v writes.now z new root)
  pub none : datum_at (bound_in v writes.now z new root) k ≡ None

-- the key isn't bound
pub record Misses (v : Version) (z : Sizes) (old new : List Entry) (root : Label) (shape : Shape v) (k : Label) : Type 0 where
  pub stays : Stays v z old new root shape
  pub none : datum_at (bound_in v stays.writes.now z new root) k ≡ None

-- `keeper_take`: `type` exactly where the register holds no label, `none` exactly where the key isn't bound
abbrev pub TakeAnswers : (v : Version) → Sizes → List Entry → List Entry → Label → Shape v → Option Label → Reply → Type 0
TakeAnswers v z old new root shape None r = (r ≡ reply.BadType) × (new ≡ old)
TakeAnswers v z old new root shape (Some k) r = ((r ≡ reply.Done) × Takes v z old new root shape k) ⊎ ((r ≡ reply.Empty) × Misses v z old new root shape k)

-- what a key was bound to at a front on the way, or nothing, is in a register. No block was written
pub record Gets (v : Version) (z : Sizes) (old new : List Entry) (root : Label) (shape : Shape v) (k : Label) (dst : ℕ) (r : Reply) : Type 0 where
  pub goes : Goes z old new []
  pub keeps : (i : ℕ) → i < 8 → i ≢ dst → held_in z new i ≡ held_in z old i
  pub settled : IsSettled z old new
  pub front : List Entry
  pub since : IsPrefix old front
  pub behind : Goes z front new []
  pub thinned : ThinnedBy (WasOutside z front new) (bound_in v shape z front root) (bound_in v shape z new root)
  pub found : Option Value
  pub bound : datum_at (bound_in v shape z front root) k ≡ found
  pub answers : r ≡ shown (value_of found)
  pub holds : held_in z new dst ≡ value_of found

-- `keeper_get`: `type` exactly where the register holds no label
abbrev pub GetAnswers : (v : Version) → Sizes → List Entry → List Entry → Label → Shape v → ℕ → Option Label → Reply → Type 0
GetAnswers v z old new root shape dst None r = (r ≡ reply.BadType) × (new ≡ old)
GetAnswers v z old new root shape dst (Some k) r = Gets v z old new root shape k dst r

-- `keeper_count`: the number of bindings at some front, up to which and from which on no block was written
pub record Counts (v : Version) (z : Sizes) (old new : List Entry) (root : Label) (shape : Shape v) (count : ℕ) : Type 0 where
  pub goes : Goes z old new []
  pub low : KeepsLow z old new
  pub settled : IsSettled z old new
  pub front : List Entry
  pub before : Goes z old front []
  pub behind : Goes z front new []
  pub number : length (bound_in v shape z front root) ≡ count
  pub many : count ≤ length (bound_in v shape z old root)
  pub few : length (bound_in v shape z new root) ≤ count

-- `keeper_sweep`: nothing is done to a table, and a map is cleaned
abbrev pub SweepAnswers : Version → Sizes → List Entry → List Entry → ℕ → Type 0
SweepAnswers One z old new register = new ≡ old
SweepAnswers Two z old new register = ListCleansAt z old new register

-- what is made binds nothing, and is new, in a register
pub record Makes (v : Version) (z : Sizes) (old new : List Entry) (dst : ℕ) (root : Label) : Type 0 where
  pub goes : Goes z old new []
  pub keeps : (r : ℕ) → r ≢ dst → held_in z new r ≡ held_in z old r
  pub holds : held_in z new dst ≡ Block root
  pub fresh : node_at (graph_of z old) root ≡ None
  pub shape : Shape v
  pub keeper : IsKeeper v shape z.domains (graph_of z new) root
  pub empty : bound_in v shape z new root ≡ []

pub record MakesNone (z : Sizes) (old new : List Entry) : Type 0 where
  pub goes : Goes z old new []
  pub keeps : (r : ℕ) → held_in z new r ≡ held_in z old r

-- `keeper_make`: the block of what was made, or `full`
abbrev pub MakeAnswers : Version → Sizes → List Entry → List Entry → ℕ → Reply → Type 0
MakeAnswers v z old new dst r = ((root : Label) × (r ≡ reply.Block root) × Makes v z old new dst root) ⊎ ((r ≡ reply.Full) × MakesNone z old new)

-- what a call answers of whatever stands in a register when it begins
abbrev pub PutsAt : (v : Version) → Sizes → List Entry → List Entry → ℕ → ℕ → ℕ → Reply → Type 0
PutsAt v z old new register key item r = (root : Label) (shape : Shape v) → held_in z old register ≡ Block root → IsKeeper v shape z.domains (graph_of z old) root → PutAnswers v z old new root shape (label_of (held_in z old key)) (held_in z old item) r

abbrev pub TakesAt : (v : Version) → Sizes → List Entry → List Entry → ℕ → ℕ → Reply → Type 0
TakesAt v z old new register key r = (root : Label) (shape : Shape v) → held_in z old register ≡ Block root → IsKeeper v shape z.domains (graph_of z old) root → TakeAnswers v z old new root shape (label_of (held_in z old key)) r

abbrev pub GetsAt : (v : Version) → Sizes → List Entry → List Entry → ℕ → ℕ → ℕ → Reply → Type 0
GetsAt v z old new dst register key r = (root : Label) (shape : Shape v) → held_in z old register ≡ Block root → IsKeeper v shape z.domains (graph_of z old) root → GetAnswers v z old new root shape dst (label_of (held_in z old key)) r

abbrev pub CountsAt : (v : Version) → Sizes → List Entry → List Entry → ℕ → ℕ → Type 0
CountsAt v z old new register count = (root : Label) (shape : Shape v) → held_in z old register ≡ Block root → IsKeeper v shape z.domains (graph_of z old) root → Counts v z old new root shape count
