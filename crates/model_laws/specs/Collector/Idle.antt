-- A collection that takes nothing.
use Rattle.std.specs.Prelude.{◌≡◌, ℕ, List, [], ◌∷◌}
use Rattle.model_core.specs.declared.entry.Entry.{Entry}
use Rattle.model_core.specs.declared.entry.Entry.TheVariants.{Cut, Seal, Collected, Done}
use Rattle.model_core.specs.declared.state.State.{State}
use Rattle.model_core.specs.History.{replies_from, state_after}

-- one that isn't complete, and one that is
abbrev pub idle : List Entry
idle = Cut ∷ Seal ∷ Done ∷ []

abbrev pub idle_complete : List Entry
idle_complete = Cut ∷ Seal ∷ Collected ∷ Done ∷ []

-- whatever follows, each domain is answered as it would have been without it
abbrev pub IdleCollectionsAreUnseen : Type 0
IdleCollectionsAreUnseen = (s : State) (h : List Entry) (d : ℕ) → (replies_from (state_after s idle) h d ≡ replies_from s h d) × (replies_from (state_after s idle_complete) h d ≡ replies_from s h d)
