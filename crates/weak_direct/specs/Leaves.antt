-- What the calls answer and leave, and what one that stops leaves.
use Rattle.std.specs.Prelude.{◌≡◌, ◌≢◌, ℕ, Bool, true, false, List, Option, Some, None}
use Rattle.model_core.specs.declared.label.Label.{Label}
use Rattle.model_core.specs.declared.entry.Entry.{Entry}
use Rattle.model_core.specs.declared.graph.Value.{Value}
use Rattle.model_core.specs.declared.graph.Value.TheVariants.{Block}
use Rattle.model_core.specs.declared.reply.Reply.{Reply}
use Rattle.model_core.specs.declared.state.Sizes.{Sizes}
use Rattle.model_core.specs.Commands.{shown}
use Rattle.model_core.specs.History.{IsPrefix}
use Rattle.weak_laws.specs.Tables.Stages.{graph_of}
use Rattle.weak_laws.specs.Maps.Tries.{IsMap}
use Rattle.weak_laws.specs.Maps.Calls.{GetAnswers, OwnKeep, TakeAnswers, bound_after}
use Rattle.weak_laws.specs.Maps.Within.{OwnWithin}
use Rattle.weak_laws.specs.Maps.Steps.{OthersRespect}
use Rattle.weak_maps.specs.Beside.{held_by}
use Rattle.weak_maps.specs.Fields.{IsBeside}
use Rattle.weak_direct.specs.Tries.{KeepsBeside}
use Rattle.weak_maps.specs.Walks.{HoldsLeaf, Looking, OwnQuiet}

-- a look at a key has changed nothing so far: at a front of the call it told what the key was bound to
pub record LookedBy (z : Sizes) (d : ℕ) (old now : List Entry) (root k : Label) (datum : Option Value) : Type 0 where
  pub looking : Looking z root d old now
  pub front : List Entry
  pub since : IsPrefix old front
  pub until : IsPrefix front now
  pub bound : bound_after z root front k ≡ datum

-- by whether register 8 holds a leaf of the key
abbrev pub FoundBy : Sizes → ℕ → List Entry → List Entry → Label → Label → Bool → Type 0
FoundBy z d old now root k true = (datum : Value) × LookedBy z d old now root k (Some datum) × HoldsLeaf z d now root k (Some datum) 8
FoundBy z d old now root k false = LookedBy z d old now root k None

-- whatever map the register holds, if others respect it
abbrev pub LooksUp : Sizes → ℕ → List Entry → List Entry → ℕ → ℕ → Label → Bool → Type 0
LooksUp z d old now map key k mine = (root : Label) → held_by z d old map ≡ Block root → held_by z d old key ≡ Block k → IsMap (graph_of z old) root → OthersRespect z root d old now → FoundBy z d old now root k mine

-- what `map_get` leaves: the map is one still, no block was changed by the domain, the register of the answer holds what the reply shows, and the others but 8 to 11 what they held
pub record GetLeaves (z : Sizes) (d : ℕ) (old new : List Entry) (root : Label) (dst : ℕ) (r : Reply) : Type 0 where
  pub map : IsMap (graph_of z new) root
  pub quiet : OwnQuiet z d old new
  pub holds : shown (held_by z d new dst) ≡ r
  pub keeps : (i : ℕ) → IsBeside i → i ≢ dst → held_by z d new i ≡ held_by z d old i

-- `map_get`, by what the register of the key holds
abbrev pub GetReturns : Sizes → ℕ → List Entry → List Entry → Label → ℕ → Value → Reply → Type 0
GetReturns z d old new root dst (Block k) r = GetAnswers z root d old new (Block k) r × GetLeaves z d old new root dst r
GetReturns z d old new root dst key r = GetAnswers z root d old new key r

-- what a call answers and leaves of whatever map stands in a register when it begins, if others respect the map until it ends
abbrev pub GetsAt : Sizes → ℕ → List Entry → List Entry → ℕ → ℕ → ℕ → Reply → Type 0
GetsAt z d old new dst map key r = (root : Label) → held_by z d old map ≡ Block root → IsMap (graph_of z old) root → OthersRespect z root d old new → GetReturns z d old new root dst (held_by z d old key) r

-- what `map_take` leaves: the map is one still, no block was written but of the map and of the call's own, and the registers but 8 to 11 hold what they held
pub record TakeLeaves (z : Sizes) (d : ℕ) (old new : List Entry) (root : Label) : Type 0 where
  pub map : IsMap (graph_of z new) root
  pub within : OwnWithin z root d old old new
  pub keeps : KeepsBeside z d old new

-- `map_take`, by what the register of the key holds
abbrev pub TakeReturns : Sizes → ℕ → List Entry → List Entry → Label → Value → Reply → Type 0
TakeReturns z d old new root (Block k) r = TakeAnswers z root d old new (Block k) r × TakeLeaves z d old new root
TakeReturns z d old new root key r = TakeAnswers z root d old new key r

abbrev pub TakesAt : Sizes → ℕ → List Entry → List Entry → ℕ → ℕ → Reply → Type 0
TakesAt z d old new map key r = (root : Label) → held_by z d old map ≡ Block root → IsMap (graph_of z old) root → OthersRespect z root d old new → TakeReturns z d old new root (held_by z d old key) r

-- what a call that stops leaves: it changed no binding, and no block was written but of the map and of the call's own
pub record StopLeaves (z : Sizes) (d : ℕ) (old new : List Entry) (root : Label) : Type 0 where
  pub keeps : OwnKeep z root d old new
  pub within : OwnWithin z root d old old new

-- so of whatever map stood in a register when it began, if others respect the map until it stops
abbrev pub StopsAt : Sizes → ℕ → List Entry → List Entry → ℕ → Type 0
StopsAt z d old new map = (root : Label) → held_by z d old map ≡ Block root → IsMap (graph_of z old) root → OthersRespect z root d old new → StopLeaves z d old new root
