-- What the collector may take from the bindings, and what a call leaves of all other blocks.
use Rattle.std.specs.Prelude.{◌≡◌, ◌⊎◌, ℕ, Bool, false, not, IsTrue, List, [], ◌∷◌, ◌++◌, Option, Some, None}
use Rattle.std.specs.List.{list_all}
use Rattle.model_core.specs.declared.label.Label.{Label}
use Rattle.model_core.specs.declared.entry.Entry.{Entry}
use Rattle.model_core.specs.declared.entry.Entry.TheVariants.{Wipe}
use Rattle.model_core.specs.declared.graph.Value.TheVariants.{Block, Nothing}
use Rattle.model_core.specs.declared.graph.Node.{Node}
use Rattle.model_core.specs.declared.graph.Node.TheVariants.{Plain, Raw, Ephe}
use Rattle.model_core.specs.declared.state.Sizes.{Sizes}
use Rattle.model_core.specs.declared.state.State.{State}
use Rattle.model_core.specs.Graph.{Graph, has_label, node_at}
use Rattle.model_core.specs.Domains.{opening, register, reach}
use Rattle.model_core.specs.Entries.{keys_at}
use Rattle.model_core.specs.Fronts.{is_call}
use Rattle.model_core.specs.History.{IsPrefix, state_after}
use Rattle.weak_laws.specs.Tables.Structures.{Binding}

-- whether an entry is the collector's
abbrev pub is_collector : Entry → Bool
is_collector e = not (is_call e)

-- all entries are the collector's
abbrev pub AllCollector : List Entry → Type 0
AllCollector h = IsTrue (list_all is_collector h)

-- the state that a history leaves
abbrev pub state_of : Sizes → List Entry → State
state_of z h = state_after (opening z) h

-- what the registers and the queues of a state don't reach
abbrev pub IsOutside : State → Label → Type 0
IsOutside s k = IsTrue (not (has_label (reach s) k))

-- the labels in the keys that an entry empties
abbrev pub taken_by : State → Entry → List Label
taken_by s (Wipe l keys) = keys_at keys (node_at s.graph l)
taken_by s _ = []

-- an entry takes a label, which is outside reach
pub record IsTakenBy (s : State) (e : Entry) (k : Label) : Type 0 where
  pub outside : IsOutside s k
  pub taken : IsTrue (has_label (taken_by s e) k)

-- a label that was outside reach at some moment, from the first front to the second, when the collector's next entry took it
pub record WasOutside (z : Sizes) (old new : List Entry) (k : Label) : Type 0 where
  pub front : List Entry
  pub since : IsPrefix old front
  pub until : IsPrefix front new
  pub outside : IsOutside (state_of z front) k
  pub entry : Entry
  pub through : IsPrefix (front ++ entry ∷ []) new
  pub taken : IsTrue (has_label (taken_by (state_of z front) entry) k)

-- no register holds the label
abbrev pub IsUnheld : State → Label → Type 0
IsUnheld s k = (d r : ℕ) → register s d r ≡ Block k → ⊥

-- what the collector may take from the first front to the second: a key that was outside reach at some moment, and that no register held at the start
pub record Went (z : Sizes) (old new : List Entry) (k : Label) : Type 0 where
  pub was : WasOutside z old new k
  pub unheld : IsUnheld (state_of z old) k

-- the second list is the first without some pairs, of the keys of which P holds
abbrev pub ThinnedBy : (Label → Type 0) → List Binding → List Binding → Type 0
ThinnedBy P [] left = left ≡ []
ThinnedBy P (b ∷ bs) left = ((rest : List Binding) × (left ≡ b ∷ rest) × ThinnedBy P bs rest) ⊎ (P b.0 × ThinnedBy P bs left)

-- the second list has the keys of the first, but some are emptied, of which P holds
abbrev pub EmptiedBy : (Label → Type 0) → List (Option Label) → List (Option Label) → Type 0
EmptiedBy P [] left = left ≡ []
EmptiedBy P (key ∷ keys) left = (now : Option Label) × (rest : List (Option Label)) × (left ≡ now ∷ rest) × ((now ≡ key) ⊎ ((now ≡ None) × ((k : Label) × (key ≡ Some k) × P k))) × EmptiedBy P keys rest

-- and one at least is emptied
abbrev pub LosesSome : (Label → Type 0) → List (Option Label) → List (Option Label) → Type 0
LosesSome P [] left = ⊥
LosesSome P (key ∷ keys) left = (now : Option Label) × (rest : List (Option Label)) × (left ≡ now ∷ rest) × (((now ≡ None) × ((k : Label) × (key ≡ Some k) × P k) × EmptiedBy P keys rest) ⊎ ((now ≡ key) × LosesSome P keys rest))

-- What is left of a block: a plain or raw block is as it was. An ephemeron is as it was, or has lost some keys of which P holds, no other, and its datum; said of its one key where it has one
abbrev pub Thin : (Label → Type 0) → Node → Option Node → Type 0
Thin P (Plain tag fields) left = left ≡ Some (Plain tag fields)
Thin P (Raw tag fields) left = left ≡ Some (Raw tag fields)
Thin P (Ephe (key ∷ []) datum) left = (left ≡ Some (Ephe (key ∷ []) datum)) ⊎ ((k : Label) × (key ≡ Some k) × P k × (left ≡ Some (Ephe (None ∷ []) Nothing)))
Thin P (Ephe keys datum) left = (left ≡ Some (Ephe keys datum)) ⊎ ((now : List (Option Label)) × LosesSome P keys now × (left ≡ Some (Ephe now Nothing)))

-- all blocks but those with these labels
abbrev pub Changes : (Label → Type 0) → List Label → Graph → Graph → Type 0
Changes P own g h = (l : Label) (n : Node) → node_at g l ≡ Some n → has_label own l ≡ false → Thin P n (node_at h l)
