-- Laws of the calls on a table, in the words in which a user would ask for them.
use Rattle.std.specs.Prelude.{◌≡◌, ◌≢◌, ℕ, ◌+◌, ◌≤◌, List, [], length, slice_index_or, Some}
use Rattle.model_core.specs.declared.label.Label.{Label}
use Rattle.model_core.specs.declared.entry.Entry.{Entry}
use Rattle.model_core.specs.declared.graph.Value.{Value}
use Rattle.model_core.specs.declared.reply.Reply.{Reply}
use Rattle.model_core.specs.declared.state.Sizes.{Sizes}
use Rattle.model_core.specs.Graph.{Graph}
use Rattle.model_core.specs.Commands.{shown}
use Rattle.model_core.specs.History.{IsPrefix}
use Rattle.weak_laws.specs.Tables.Structures.{Cell, bindings, chain_bindings, datum_at, IsTable}
use Rattle.weak_laws.specs.Tables.Thinning.{WasOutside}
use Rattle.weak_laws.specs.Tables.Stages.{graph_of}
use Rattle.weak_tables.specs.Tables.{Puts, Gets, Takes}
use Rattle.weak_tables.specs.Calls.{TableCall, CallsRun, AllSpare}

-- a look-up answers what its key was bound to when the call began, if the key was reached all the while
abbrev pub LookupsFind : Type 0
LookupsFind = (z : Sizes) (old new : List Entry) (root : Label) (chains : List (List Cell)) (k : Label) (dst : ℕ) (r : Reply) (v : Value) → Gets z old new root chains k dst r
    → datum_at (bindings (graph_of z old) chains) k ≡ Some v → (WasOutside z old new k → ⊥) → r ≡ shown v

-- a put leaves each other key that was reached all the while with what it was bound to, if to anything
abbrev pub PutsKeepOthers : Type 0
PutsKeepOthers = (z : Sizes) (old new : List Entry) (root : Label) (chains : List (List Cell)) (k j : Label) (v : Value) → (x : Puts z old new root chains k v) → j ≢ k → (WasOutside z old new j → ⊥)
    → datum_at (bindings (graph_of z new) x.grown) j ≡ datum_at (bindings (graph_of z old) chains) j

-- and so does a take
abbrev pub TakesKeepOthers : Type 0
TakesKeepOthers = (z : Sizes) (old new : List Entry) (root : Label) (chains : List (List Cell)) (k j : Label) → Takes z old new root chains k → j ≢ k → (WasOutside z old new j → ⊥)
    → datum_at (bindings (graph_of z new) chains) j ≡ datum_at (bindings (graph_of z old) chains) j

-- what was put for a key, was neither put anew nor taken out in the calls since, and whose key was reached all the while, is what a look-up of the key answers
abbrev pub BindingsAreFound : Type 0
BindingsAreFound = (z : Sizes) (root : Label) (calls : List TableCall) (first put last now : List Entry) (before after : List (List Cell)) (k : Label) (v : Value) (dst : ℕ) (r : Reply)
    → (x : Puts z first put root before k v) → CallsRun z root calls put x.grown last after → AllSpare k calls → Gets z last now root after k dst r → (WasOutside z put now k → ⊥) → r ≡ shown v

-- how many cells a bucket has, and how many keys are bound in it
abbrev pub cells_in : List (List Cell) → ℕ → ℕ
cells_in chains i = length (slice_index_or chains i [])

abbrev pub bound_in : Graph → List (List Cell) → ℕ → ℕ
bound_in g chains i = length (chain_bindings g (slice_index_or chains i []))

-- a bucket that has at most one cell more than the most keys that are bound in it at a time stays so, whatever calls and other commands come
abbrev pub BucketsStaySmall : Type 0
BucketsStaySmall = (z : Sizes) (root : Label) (calls : List TableCall) (old new : List Entry) (chains last : List (List Cell)) (i most : ℕ) → IsTable (graph_of z old) root chains → CallsRun z root calls old chains new last
    → ((front : List Entry) (now : List (List Cell)) → IsPrefix old front → IsPrefix front new → IsTable (graph_of z front) root now → bound_in (graph_of z front) now i ≤ most) → cells_in chains i ≤ most + 1 → cells_in last i ≤ most + 1
