-- What the calls on tables answer and leave.
use Rattle.std.specs.Prelude.{◌≡◌, ◌≢◌, ◌≤◌, ◌⊎◌, ℕ, IsTrue, List, [], length, Option, Some, None}
use Rattle.model_core.specs.declared.label.Label.{Label}
use Rattle.model_core.specs.declared.entry.Entry.{Entry}
use Rattle.model_core.specs.declared.graph.Value.{Value}
use Rattle.model_core.specs.declared.graph.Value.TheVariants.{Block, Nothing}
use Rattle.model_core.specs.declared.reply.Reply.{Reply}
use Rattle.model_core.specs.declared.state.Sizes.{Sizes}
use Rattle.model_core.specs.Graph.{has_label, label_of, node_at}
use Rattle.model_core.specs.Commands.{shown}
use Rattle.model_core.specs.History.{IsPrefix}
use Rattle.weak_laws.specs.Tables.Structures.{Cell, bucket_count, bindings, datum_at, without, table_labels, empty_chains, is_bucket_full, IsTable}
use Rattle.weak_laws.specs.Tables.Thinning.{ThinnedBy, WasOutside}
use Rattle.weak_laws.specs.Tables.Stages.{Goes, graph_of, held_in}
use Rattle.model_core.specs.declared.reply.Reply.TheVariants as reply
use Rattle.weak_tables.specs.Commands.{value_of}
use Rattle.weak_tables.specs.Held.{AllHave, IsTidy, KeepsOthers, IsClean, OfTable, Reads}
use Rattle.weak_tables.specs.Walks.{Grows, Refused}

-- what `table_take` leaves of a table that bound the key: it binds what it bound, without the key
pub record Takes (z : Sizes) (old new : List Entry) (root : Label) (chains : List (List Cell)) (k : Label) : Type 0 where
  pub goes : Goes z old new (table_labels root chains)
  pub keeps : KeepsOthers z old new
  pub clean : IsClean z new
  pub table : IsTable (graph_of z new) root chains
  pub was : Value
  pub bound : datum_at (bindings (graph_of z old) chains) k ≡ Some was
  pub left : ThinnedBy (WasOutside z old new) (without k (bindings (graph_of z old) chains)) (bindings (graph_of z new) chains)
  pub none : datum_at (bindings (graph_of z new) chains) k ≡ None
  pub tidy : AllHave IsTidy (graph_of z old) (table_labels root chains) → AllHave IsTidy (graph_of z new) (table_labels root chains)

-- what a call leaves that changed no table
pub record Leaves (z : Sizes) (old new : List Entry) (root : Label) (chains : List (List Cell)) : Type 0 where
  pub reads : Reads z old new root chains
  pub clean : IsClean z new

-- `table_take`: `type` exactly where the register holds no label, `none` exactly where the key isn't bound
abbrev pub TakeAnswers : Sizes → List Entry → List Entry → Label → List (List Cell) → Option Label → Reply → Type 0
TakeAnswers z old new root chains None r = (r ≡ reply.BadType) × (new ≡ old)
TakeAnswers z old new root chains (Some k) r =
    ((r ≡ reply.Done) × Takes z old new root chains k)
    ⊎ ((r ≡ reply.Empty) × Leaves z old new root chains × KeepsOthers z old new × (datum_at (bindings (graph_of z new) chains) k ≡ None))

-- what `table_get` leaves where the key is bound: the datum that it was bound to on the way, in a register
pub record Gets (z : Sizes) (old new : List Entry) (root : Label) (chains : List (List Cell)) (k : Label) (dst : ℕ) (r : Reply) : Type 0 where
  pub reads : Reads z old new root chains
  pub clean : IsClean z new
  pub keeps : (r : ℕ) → r ≢ 8 → r ≢ 9 → r ≢ 10 → r ≢ dst → held_in z new r ≡ held_in z old r
  pub front : List Entry
  pub since : IsPrefix old front
  pub until : IsPrefix front new
  pub rest : Reads z front new root chains
  pub found : Option Value
  pub bound : datum_at (bindings (graph_of z front) chains) k ≡ found
  pub answers : r ≡ shown (value_of found)
  pub holds : held_in z new dst ≡ value_of found

-- `table_get`: `type` exactly where the register holds no label, `none` exactly where the key isn't bound, else its datum
abbrev pub GetAnswers : Sizes → List Entry → List Entry → Label → List (List Cell) → ℕ → Option Label → Reply → Type 0
GetAnswers z old new root chains dst None r = (r ≡ reply.BadType) × (new ≡ old)
GetAnswers z old new root chains dst (Some k) r = Gets z old new root chains k dst r

-- what `table_put` leaves where it is done: the bindings without the key, and the key with the datum. A cell is made only where each cell of the bucket had a key
pub record Puts (z : Sizes) (old new : List Entry) (root : Label) (chains : List (List Cell)) (k : Label) (v : Value) : Type 0 where
  pub goes : Goes z old new (table_labels root chains)
  pub keeps : KeepsOthers z old new
  pub clean : IsClean z new
  pub grown : List (List Cell)
  pub cells : Grows (graph_of z old) k chains grown
  pub spare : (grown ≡ chains) ⊎ IsTrue (is_bucket_full (graph_of z old) k chains)
  pub labels : (l : Label) → IsTrue (has_label (table_labels root grown) l) → IsTrue (has_label (table_labels root chains) l) ⊎ (node_at (graph_of z old) l ≡ None)
  pub table : IsTable (graph_of z new) root grown
  pub left : ThinnedBy (WasOutside z old new) (without k (bindings (graph_of z old) chains)) (without k (bindings (graph_of z new) grown))
  pub bound : datum_at (bindings (graph_of z new) grown) k ≡ Some v
  pub tidy : AllHave IsTidy (graph_of z old) (table_labels root chains) → AllHave IsTidy (graph_of z new) (table_labels root grown)

-- `table_put`: `type` exactly where one register holds no label or the other nothing, `full` where an allocation was refused
abbrev pub PutAnswers : Sizes → List Entry → List Entry → Label → List (List Cell) → Option Label → Value → Reply → Type 0
PutAnswers z old new root chains None v r = (r ≡ reply.BadType) × (new ≡ old)
PutAnswers z old new root chains (Some k) Nothing r = (r ≡ reply.BadType) × (new ≡ old)
PutAnswers z old new root chains (Some k) v r = ((r ≡ reply.Done) × Puts z old new root chains k v) ⊎ ((r ≡ reply.Full) × Refused z old new root chains × IsClean z new)

-- `table_make`: an empty table that is new, in a register, or `full`, and then all registers are as before
pub record Makes (z : Sizes) (old new : List Entry) (dst : ℕ) (root : Label) : Type 0 where
  pub goes : Goes z old new []
  pub keeps : (r : ℕ) → r ≢ dst → held_in z new r ≡ held_in z old r
  pub holds : held_in z new dst ≡ Block root
  pub fresh : node_at (graph_of z old) root ≡ None
  pub table : IsTable (graph_of z new) root (empty_chains bucket_count)

pub record MakesNone (z : Sizes) (old new : List Entry) : Type 0 where
  pub goes : Goes z old new []
  pub keeps : (r : ℕ) → held_in z new r ≡ held_in z old r

abbrev pub MakeAnswers : Sizes → List Entry → List Entry → ℕ → Reply → Type 0
MakeAnswers z old new dst r = ((root : Label) × (r ≡ reply.Block root) × Makes z old new dst root) ⊎ ((r ≡ reply.Full) × MakesNone z old new)

-- `table_count`: the number of bindings at some front, up to which and from which on no block was written, from the first, where there are no fewer, to the last, where there are no more
pub record Counts (z : Sizes) (old new : List Entry) (root : Label) (chains : List (List Cell)) (count : ℕ) : Type 0 where
  pub leaves : Leaves z old new root chains
  pub keeps : KeepsOthers z old new
  pub front : List Entry
  pub before : Goes z old front []
  pub behind : Goes z front new []
  pub number : length (bindings (graph_of z front) chains) ≡ count
  pub many : count ≤ length (bindings (graph_of z old) chains)
  pub few : length (bindings (graph_of z new) chains) ≤ count

-- what a call answers and leaves of whatever table stands in a register when it begins
abbrev pub PutsAt : Sizes → List Entry → List Entry → ℕ → ℕ → ℕ → Reply → Type 0
PutsAt z old new table key item r = OfTable z old table (λ root chains. PutAnswers z old new root chains (label_of (held_in z old key)) (held_in z old item) r)

abbrev pub GetsAt : Sizes → List Entry → List Entry → ℕ → ℕ → ℕ → Reply → Type 0
GetsAt z old new dst table key r = OfTable z old table (λ root chains. GetAnswers z old new root chains dst (label_of (held_in z old key)) r)

abbrev pub TakesAt : Sizes → List Entry → List Entry → ℕ → ℕ → Reply → Type 0
TakesAt z old new table key r = OfTable z old table (λ root chains. TakeAnswers z old new root chains (label_of (held_in z old key)) r)

abbrev pub CountsAt : Sizes → List Entry → List Entry → ℕ → ℕ → Type 0
CountsAt z old new table count = OfTable z old table (λ root chains. Counts z old new root chains count)
