-- The one order of all calls on a shared map.
use Rattle.std.specs.Prelude.{◌≡◌, ◌≢◌, ◌⊎◌, ℕ, IsTrue, List, [], ◌∷◌, ◌++◌, Option, Some, None}
use Rattle.model_core.specs.declared.label.Label.{Label}
use Rattle.model_core.specs.declared.entry.Entry.{Entry}
use Rattle.model_core.specs.declared.graph.Value.{Value}
use Rattle.model_core.specs.declared.state.Sizes.{Sizes}
use Rattle.model_core.specs.Graph.{has_label}
use Rattle.model_core.specs.Domains.{reach}
use Rattle.model_core.specs.History.{IsPrefix}
use Rattle.weak_laws.specs.Tables.Thinning.{IsUnheld, state_of}
use Rattle.weak_laws.specs.Tables.Stages.{graph_of}
use Rattle.weak_laws.specs.Maps.Tries.{bound_by}
use Rattle.weak_laws.specs.Maps.Calls.{bound_after, ChangesOne, Gets}
use Rattle.weak_laws.specs.Maps.MapLaws.{NoneSets, SetsAt}
use Rattle.weak_maps.specs.Shared.Sharing.{IsShared}

-- What one entry does to a plain map from labels to data: nothing, or it sets one key, which is bound then as its new leaf binds it or unbound, and no other,
-- or the bindings of some keys are lost that no domain's register holds
pub data PlainStep (z : Sizes) (root : Label) (front : List Entry) (e : Entry) (before after : Label → Option Value) : Type 0 where
  Keeps : ((l : Label) → after l ≡ before l) → PlainStep z root front e before after
  Sets : (k : Label) (new : Value) → SetsAt z root front e k new → after k ≡ bound_by (graph_of z front) k new → ((l : Label) → l ≢ k → after l ≡ before l) → PlainStep z root front e before after
  Loses : ((l : Label) → (after l ≡ before l) ⊎ (IsUnheld (state_of z front) l × (after l ≡ None))) → PlainStep z root front e before after

-- the bindings go from front to front by such steps
abbrev pub BindingsAreOfOneOrder : Type 0
BindingsAreOfOneOrder = (z : Sizes) (root : Label) (base h : List Entry) → IsShared z root base h → (front : List Entry) (e : Entry) → IsPrefix base front → IsPrefix (front ++ e ∷ []) h
    → PlainStep z root front e (bound_after z root front) (bound_after z root (front ++ e ∷ []))

-- an entry between two fronts has put this datum of a key, which has been bound to it ever since
pub record WasPut (z : Sizes) (root : Label) (old new : List Entry) (k : Label) (v : Value) : Type 0 where
  pub front : List Entry
  pub entry : Entry
  pub since : IsPrefix old front
  pub until : IsPrefix (front ++ entry ∷ []) new
  pub leaf : Value
  pub sets : SetsAt z root front entry k leaf
  pub binds : bound_by (graph_of z front) k leaf ≡ Some v
  pub stays : (later : List Entry) → IsPrefix (front ++ entry ∷ []) later → IsPrefix later new → bound_after z root later k ≡ Some v

-- what a lookup finds of a key that was unbound at some front was put since
abbrev pub FoundWasPut : Type 0
FoundWasPut = (z : Sizes) (root : Label) (base h : List Entry) → IsShared z root base h → (k : Label) (v : Value) (unbound old new : List Entry) (d : ℕ) → IsPrefix base unbound → bound_after z root unbound k ≡ None
    → IsPrefix unbound old → IsPrefix new h → (gets : Gets z root d old new k (Some v)) → WasPut z root unbound gets.front k v

-- a take that is done behind another one takes what was put between them
abbrev pub TakesDiffer : Type 0
TakesDiffer = (z : Sizes) (root : Label) (base h : List Entry) → IsShared z root base h → (k : Label) (v w : Value) (d e : ℕ) (a b p q : List Entry) → IsPrefix base a → IsPrefix b h → IsPrefix q h
    → (first : ChangesOne z root d a b k (Some v) None) → (last : ChangesOne z root e p q k (Some w) None) → IsPrefix (first.front ++ first.entry ∷ []) last.front
    → WasPut z root (first.front ++ first.entry ∷ []) last.front k w

-- what a put put is found by each lookup that begins behind it, as long as its key is reached and no entry sets it
abbrev pub PutIsFoundByAll : Type 0
PutIsFoundByAll = (z : Sizes) (root : Label) (base h : List Entry) → IsShared z root base h → (d reader : ℕ) (old mid later new : List Entry) (k : Label) (v : Value) (before datum : Option Value) → IsPrefix base old → IsPrefix mid later → IsPrefix new h
    → (put : ChangesOne z root d old mid k before (Some v)) → Gets z root reader later new k datum → NoneSets z root (put.front ++ put.entry ∷ []) new k
    → ((front : List Entry) → IsPrefix (put.front ++ put.entry ∷ []) front → IsPrefix front new → IsTrue (has_label (reach (state_of z front)) k)) → datum ≡ Some v
