-- Laws of tables and weak arrays, in the words in which a reader would ask for them.
use Rattle.std.specs.Prelude.{◌≡◌, IsTrue, List, [], ◌∷◌, ◌++◌, Some}
use Rattle.model_core.specs.declared.label.Label.{Label}
use Rattle.model_core.specs.declared.entry.Entry.{Entry}
use Rattle.model_core.specs.declared.entry.Entry.TheVariants.{Collected}
use Rattle.model_core.specs.declared.graph.Value.{Value}
use Rattle.model_core.specs.declared.state.Sizes.{Sizes}
use Rattle.model_core.specs.declared.state.State.{State}
use Rattle.model_core.specs.Graph.{Graph, has_label, has_no_repeats}
use Rattle.model_core.specs.Domains.{reach}
use Rattle.model_core.specs.Entries.{Allowed, next}
use Rattle.model_core.specs.History.{IsPrefix, Legal}
use Rattle.weak_laws.specs.Tables.Structures.{Binding, Cell, datum_at, keys_of, bindings, IsTable, IsWeakArray, slot_keys, table_labels, Apart}
use Rattle.weak_laws.specs.Tables.Thinning.{is_collector, state_of, IsOutside, WasOutside, ThinnedBy, EmptiedBy}
use Rattle.weak_laws.specs.Tables.Stages.{Goes, graph_of}

-- what an entry of the collector takes from a table: only pairs whose key is outside reach. The table stays one, with the same chains
abbrev pub TakesFromTables : Type 0
TakesFromTables = (s : State) (e : Entry) → IsTrue (is_collector e) → Allowed s e → (root : Label) (chains : List (List Cell)) → IsTable s.graph root chains
    → IsTable (next s e).graph root chains × ThinnedBy (IsOutside s) (bindings s.graph chains) (bindings (next s e).graph chains)

-- and from a weak array: only keys outside reach
abbrev pub TakesFromArrays : Type 0
TakesFromArrays = (s : State) (e : Entry) → IsTrue (is_collector e) → Allowed s e → (root : Label) (slots : List Label) → IsWeakArray s.graph root slots
    → IsWeakArray (next s e).graph root slots × EmptiedBy (IsOutside s) (slot_keys s.graph slots) (slot_keys (next s e).graph slots)

-- after a complete collection each key of a table that is reached is reached
abbrev pub CollectedKeysAreReached : Type 0
CollectedKeysAreReached = (z : Sizes) (h : List Entry) → Legal z (h ++ Collected ∷ []) → let s = state_of z (h ++ Collected ∷ []) in
    (root : Label) (chains : List (List Cell)) → IsTable s.graph root chains → IsTrue (has_label (reach s) root)
    → (k : Label) → IsTrue (has_label (keys_of (bindings s.graph chains)) k) → IsTrue (has_label (reach s) k)

-- no key is bound twice
abbrev pub KeysDiffer : Type 0
KeysDiffer = (g : Graph) (root : Label) (chains : List (List Cell)) → IsTable g root chains → IsTrue (has_no_repeats (keys_of (bindings g chains)))

-- a table has one layout, so one list of bindings
abbrev pub OneLayout : Type 0
OneLayout = (g : Graph) (root : Label) (a b : List (List Cell)) → IsTable g root a → IsTable g root b → a ≡ b

-- a binding that is there at one front, and whose key is reached at each front from then to a later one, is there at the later one, if keys outside reach alone were taken between
abbrev pub BoundWhileReached : Type 0
BoundWhileReached = (z : Sizes) (old new : List Entry) (before after : List Binding) (k : Label) (v : Value) → ThinnedBy (WasOutside z old new) before after → datum_at before k ≡ Some v
    → ((front : List Entry) → IsPrefix old front → IsPrefix front new → IsTrue (has_label (reach (state_of z front)) k)) → datum_at after k ≡ Some v

-- what a call leaves of each table apart from the blocks that it may change: it is a table with the same chains, and has lost only keys that were outside reach
abbrev pub OtherTablesStay : Type 0
OtherTablesStay = (z : Sizes) (old new : List Entry) (own : List Label) → Goes z old new own → (root : Label) (chains : List (List Cell)) → IsTable (graph_of z old) root chains → Apart (table_labels root chains) own
    → IsTable (graph_of z new) root chains × ThinnedBy (WasOutside z old new) (bindings (graph_of z old) chains) (bindings (graph_of z new) chains)

-- and of each such weak array
abbrev pub OtherArraysStay : Type 0
OtherArraysStay = (z : Sizes) (old new : List Entry) (own : List Label) → Goes z old new own → (root : Label) (slots : List Label) → IsWeakArray (graph_of z old) root slots → Apart (root ∷ slots) own
    → IsWeakArray (graph_of z new) root slots × EmptiedBy (WasOutside z old new) (slot_keys (graph_of z old) slots) (slot_keys (graph_of z new) slots)
