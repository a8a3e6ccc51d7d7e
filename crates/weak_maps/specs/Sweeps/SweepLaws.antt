-- Laws of maps that are swept, and of domains that rest.
use Rattle.std.specs.Prelude.{◌≡◌, ◌≢◌, ◌⊎◌, ℕ, ◌+◌, ◌≤◌, false, IsTrue, List, [], ◌∷◌, ◌++◌, length, None, Some}
use Rattle.model_core.specs.declared.label.Label.{Label}
use Rattle.model_core.specs.declared.entry.Entry.{Entry}
use Rattle.model_core.specs.declared.state.Sizes.{Sizes}
use Rattle.model_core.specs.declared.state.State.{State}
use Rattle.model_core.specs.Graph.{has_label, has_no_repeats, node_at}
use Rattle.model_core.specs.Entries.{next}
use Rattle.model_core.specs.Fronts.{is_call}
use Rattle.model_core.specs.History.{IsPrefix, Legal, is_entry_of}
use Rattle.model_core.specs.Laws.{written}
use Rattle.weak_laws.specs.Tables.Thinning.{is_collector, state_of}
use Rattle.weak_laws.specs.Tables.Stages.{graph_of}
use Rattle.weak_laws.specs.Maps.Tries.{is_leaf, IsInPlace, IsMap}
use Rattle.weak_laws.specs.Maps.Steps.{MapStep, OthersLeave, OthersRespect, OwnRespect}
use Rattle.weak_laws.specs.Maps.Calls.{HasKey, bound_after}
use Rattle.weak_laws.specs.Maps.Within.{StandsIn}
use Rattle.weak_maps.specs.Sweeps.Dead.{BringsNoDead, OthersBringNoDead}
use Rattle.weak_maps.specs.Sweeps.Sweeps.{SweepAnswers}

-- no step brings a leaf that has lost its key to a place: it stood there before, or the step took it one block deeper
abbrev pub StepsBringNoDead : Type 0
StepsBringNoDead = (n : ℕ) (root : Label) (s : State) (e : Entry) → IsMap s.graph root → MapStep n root s e → BringsNoDead s.graph (next s e).graph root

-- so domains that respect a map bring none
abbrev pub RespectingBringsNoDead : Type 0
RespectingBringsNoDead = (z : Sizes) (root : Label) (d : ℕ) (old new : List Entry) → IsPrefix old new → IsMap (graph_of z old) root → OthersRespect z root d old new → OwnRespect z root d old new → OthersBringNoDead z root d old new

-- what entries bring into a map from one front to a later one is among these
abbrev pub CameSince : Sizes → Label → List Entry → List Entry → List Label → Type 0
CameSince z root old new since = (front : List Entry) (e : Entry) → IsPrefix old front → IsPrefix (front ++ e ∷ []) new → (l : Label) → StandsIn (graph_of z (front ++ e ∷ [])) root l → StandsIn (graph_of z front) root l ⊎ IsTrue (has_label since l)

-- a leaf that stands in a map behind a sweep stood there with its key when the sweep began, or came since
abbrev pub SweptLeavesLived : Type 0
SweptLeavesLived = (z : Sizes) (root : Label) (d : ℕ) (old new : List Entry) → IsPrefix old new → IsMap (graph_of z old) root → SweepAnswers z root d old new → (since : List Label) → CameSince z root old new since
    → (l : Label) → StandsIn (graph_of z new) root l → is_leaf (node_at (graph_of z new) l) → ((p : List ℕ) × HasKey (graph_of z old) root p l) ⊎ IsTrue (has_label since l)

-- so there are no more than those that had their key then and those that came since
abbrev pub SweptLeavesAreFew : Type 0
SweptLeavesAreFew = (z : Sizes) (root : Label) (d : ℕ) (old new : List Entry) → IsPrefix old new → IsMap (graph_of z old) root → SweepAnswers z root d old new → (since : List Label) → CameSince z root old new since
    → (live : List Label) → ((p : List ℕ) (l : Label) → HasKey (graph_of z old) root p l → IsTrue (has_label live l))
    → (leaves : List Label) → IsTrue (has_no_repeats leaves) → ((l : Label) → IsTrue (has_label leaves l) → StandsIn (graph_of z new) root l × is_leaf (node_at (graph_of z new) l)) → length leaves ≤ length live + length since

-- counted by keys, where each leaf that bound one stood on its way: no more than the keys that were bound then and those that came since
abbrev pub SweptLeavesHaveKeys : Type 0
SweptLeavesHaveKeys = (z : Sizes) (root : Label) (d : ℕ) (old new : List Entry) → IsPrefix old new → IsMap (graph_of z old) root → IsInPlace z.domains (graph_of z old) root → SweepAnswers z root d old new
    → (since : List Label) → CameSince z root old new since → (keys : List Label) → ((k : Label) → bound_after z root old k ≢ None → IsTrue (has_label keys k))
    → (leaves : List Label) → IsTrue (has_no_repeats leaves) → ((l : Label) → IsTrue (has_label leaves l) → StandsIn (graph_of z new) root l × is_leaf (node_at (graph_of z new) l)) → length leaves ≤ length keys + length since

-- each call of another domain from one front to a later one writes no block that stands in a map: it only reads, makes blocks, or writes elsewhere
abbrev pub OthersWriteElsewhere : Sizes → Label → ℕ → List Entry → List Entry → Type 0
OthersWriteElsewhere z root d old new = (front : List Entry) (e : Entry) → IsPrefix old front → IsPrefix (front ++ e ∷ []) new → is_entry_of d e ≡ false → IsTrue (is_call e)
    → (l : Label) → written (state_of z front) e ≡ Some l → StandsIn (graph_of z front) root l → ⊥

-- each other domain rests: all entries from one front to a later one are domain d's or the collector's
abbrev pub OthersRest : ℕ → List Entry → List Entry → Type 0
OthersRest d old new = (front : List Entry) (e : Entry) → IsPrefix old front → IsPrefix (front ++ e ∷ []) new → is_entry_of d e ≡ false → IsTrue (is_collector e)

-- domains that write no block of a map leave it as it is, but for keys that are outside reach
abbrev pub WritingElsewhereLeaves : Type 0
WritingElsewhereLeaves = (z : Sizes) (root : Label) (d : ℕ) (old new : List Entry) → Legal z new → OthersWriteElsewhere z root d old new → OthersLeave z root d old new

-- so do domains that rest, whatever map that is
abbrev pub RestingLeaves : Type 0
RestingLeaves = (z : Sizes) (root : Label) (d : ℕ) (old new : List Entry) → Legal z new → OthersRest d old new → OthersLeave z root d old new × OthersRespect z root d old new
