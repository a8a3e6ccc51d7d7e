-- The one order in which the lines of all sections are made: what the map binds and what the slots hold goes from front to front.
use Rattle.std.specs.Prelude.{◌≡◌, ◌≢◌, ◌⊎◌, ℕ, ◌<◌, ◌/◌, true, List, [], ◌∷◌, ◌++◌, slice_get, slice_index_or, Option, Some, None}
use Rattle.model_core.specs.declared.entry.Entry.{Entry}
use Rattle.model_core.specs.declared.graph.Value.TheVariants.{Block}
use Rattle.model_core.specs.declared.label.Label.{Label}
use Rattle.model_core.specs.declared.state.Sizes.{Sizes}
use Rattle.model_core.specs.Graph.{block_at}
use Rattle.model_core.specs.History.{IsPrefix, is_entry_of}
use Rattle.weak_laws.specs.Maps.Calls.{bound_after}
use Rattle.weak_laws.specs.Tables.Stages.{graph_of}
use Rattle.weak_laws.specs.Tables.Thinning.{IsUnheld, state_of}
use Rattle.weak_maps.specs.Beside.{held_by}
use Rattle.weak_maps.specs.Shared.Orders.{PlainStep}
use Rattle.table_sections.specs.Lines.{IsKeyRegister}
use Rattle.table_sections.specs.Slots.{keys_in, slot_key}
use Rattle.table_sections.specs.declared.laying.Places.{Places}

-- what a map binds goes as what a plain map binds does
abbrev pub BindingsGoInOrder : Sizes → Label → List Entry → List Entry → Type 0
BindingsGoInOrder z root base h = (front : List Entry) (e : Entry) → IsPrefix base front → IsPrefix (front ++ e ∷ []) h → PlainStep z root front e (bound_after z root front) (bound_after z root (front ++ e ∷ []))

-- the ephemeron of a slot
abbrev pub slot_place : Places → ℕ → Label
slot_place p s = slice_index_or (p.first ∷ p.second ∷ p.third ∷ []) (s / 6) p.first

-- what the slot holds after a history: a key, or none
abbrev pub slot_held : Sizes → Places → List Entry → ℕ → Option (Option Label)
slot_held z p h s = slice_get (keys_in (block_at (graph_of z h) (slot_place p s))) (slot_key s)

-- What one entry does to the slots: nothing; or it is a domain's, and sets one of them, and no other, to the label that a register of a key holds in that domain; or it takes keys out that no domain's register holds
pub data SlotStep (z : Sizes) (p : Places) (front : List Entry) (e : Entry) : Type 0 where
  Keeps : ((s : ℕ) → s < 16 → slot_held z p (front ++ e ∷ []) s ≡ slot_held z p front s) → SlotStep z p front e
  Sets : (d s r : ℕ) (k : Label) → is_entry_of d e ≡ true → s < 16 → IsKeyRegister r → held_by z d front r ≡ Block k → slot_held z p (front ++ e ∷ []) s ≡ Some (Some k)
      → ((t : ℕ) → t < 16 → t ≢ s → slot_held z p (front ++ e ∷ []) t ≡ slot_held z p front t) → SlotStep z p front e
  Loses : ((s : ℕ) → s < 16 → (slot_held z p (front ++ e ∷ []) s ≡ slot_held z p front s)
      ⊎ ((k : Label) × (slot_held z p front s ≡ Some (Some k)) × IsUnheld (state_of z front) k × (slot_held z p (front ++ e ∷ []) s ≡ Some None))) → SlotStep z p front e

-- and what the slots hold goes by such steps
abbrev pub SlotsGoInOrder : Sizes → Places → List Entry → List Entry → Type 0
SlotsGoInOrder z p base h = (front : List Entry) (e : Entry) → IsPrefix base front → IsPrefix (front ++ e ∷ []) h → SlotStep z p front e
