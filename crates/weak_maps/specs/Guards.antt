-- What a call may be relied on for while others use the map: its own entries respect the map as long as the others' did.
use Rattle.std.specs.Prelude.{◌≡◌, ◌≢◌, ◌<◌, ℕ, true, List, [], ◌∷◌, ◌++◌, Option, Some}
use Rattle.model_core.specs.declared.label.Label.{Label}
use Rattle.model_core.specs.declared.entry.Entry.{Entry}
use Rattle.model_core.specs.declared.graph.Value.{Value}
use Rattle.model_core.specs.declared.graph.Value.TheVariants.{Block, Nothing}
use Rattle.model_core.specs.declared.graph.Node.TheVariants.{Ephe}
use Rattle.model_core.specs.declared.reply.Reply.{Reply}
use Rattle.model_core.specs.declared.state.Sizes.{Sizes}
use Rattle.model_core.specs.History.{IsPrefix, is_entry_of}
use Rattle.weak_laws.specs.Tables.Stages.{graph_of}
use Rattle.weak_laws.specs.Maps.Tries.{way_to, IsMap, IsInPlace}
use Rattle.weak_laws.specs.Maps.Steps.{OthersRespect, RespectsMap}
use Rattle.weak_maps.specs.Beside.{held_by}
use Rattle.weak_maps.specs.Fields.{AtField}
use Rattle.weak_maps.specs.Puts.{Arrived, FieldBinds, OwnBlock}

-- each entry of domain d from one front to a later one respects a map, if those of others did from the first front up to it. Nothing is asked of the others' entries behind it
abbrev pub Guards : Sizes → Label → ℕ → List Entry → List Entry → List Entry → Type 0
Guards z root d first old new = (front : List Entry) (e : Entry) → IsPrefix old front → IsPrefix (front ++ e ∷ []) new → is_entry_of d e ≡ true → OthersRespect z root d first front → RespectsMap z root front e

-- while a leaf is made, whatever map that is for
abbrev pub LeafGuards : Sizes → ℕ → List Entry → List Entry → ℕ → ℕ → Type 0
LeafGuards z d old new key item = (root k : Label) → held_by z d old key ≡ Block k → held_by z d old item ≢ Nothing → IsMap (graph_of z old) root → Guards z root d old old new

-- while room is made at a field, whatever map that is in
abbrev pub RoomGuards : Sizes → ℕ → List Entry → List Entry → ℕ → ℕ → Type 0
RoomGuards z d old new index digit = (first front : List Entry) (root k j l : Label) (v : Value) (rest key : ℕ) (shows : Reply) → key < 8 → held_by z d old key ≡ Block k → (field : AtField z d first front old root k index rest shows) → FieldBinds z front old field.v j
    → ((q : List ℕ) × (way_to z.domains j ≡ field.p ++ index ∷ digit ∷ q)) → OwnBlock z d old root 10 l (Ephe (Some k ∷ []) v) → IsMap (graph_of z old) root → Guards z root d old old new

-- while a put tries a field, for whatever call that is
abbrev pub SettleGuards : Sizes → ℕ → List Entry → List Entry → Label → ℕ → ℕ → ℕ → Option Label → Type 0
SettleGuards z d now new k index rest level other = (old : List Entry) (root : Label) (v : Value) (key : ℕ) → key < 8 → held_by z d old key ≡ Block k → IsMap (graph_of z old) root → IsInPlace z.domains (graph_of z old) root
    → Arrived z d old now root k v index rest level other → Guards z root d old now new

-- a take, and a put, on the map that a register holds
abbrev pub TakeGuards : Sizes → ℕ → List Entry → List Entry → ℕ → Type 0
TakeGuards z d old new map = (root : Label) → held_by z d old map ≡ Block root → IsMap (graph_of z old) root → Guards z root d old old new

abbrev pub PutGuards : Sizes → ℕ → List Entry → List Entry → ℕ → Type 0
PutGuards z d old new map = (root : Label) → held_by z d old map ≡ Block root → IsMap (graph_of z old) root → IsInPlace z.domains (graph_of z old) root → Guards z root d old old new
