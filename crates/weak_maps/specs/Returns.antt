-- What the calls answer and leave.
use Rattle.std.specs.Prelude.{◌≡◌, ◌≢◌, ◌⊎◌, ◌≤◌, ℕ, List, [], ◌∷◌, ◌++◌, None}
use Rattle.model_core.specs.declared.label.Label.{Label}
use Rattle.model_core.specs.declared.entry.Entry.{Entry}
use Rattle.model_core.specs.declared.graph.Value.{Value}
use Rattle.model_core.specs.declared.graph.Value.TheVariants.{Block, Int, Nothing}
use Rattle.model_core.specs.declared.reply.Reply.{Reply}
use Rattle.model_core.specs.declared.reply.Reply.TheVariants as reply
use Rattle.model_core.specs.declared.state.Sizes.{Sizes}
use Rattle.model_core.specs.Graph.{node_at}
use Rattle.model_core.specs.Commands.{new_plain, shown}
use Rattle.model_core.specs.History.{IsPrefix}
use Rattle.weak_laws.specs.Tables.Stages.{graph_of}
use Rattle.weak_laws.specs.Maps.Tries.{IsMap, root_width, IsInPlace}
use Rattle.weak_laws.specs.Maps.Calls.{GetAnswers, PutAnswers, TakeAnswers, bound_after}
use Rattle.weak_laws.specs.Maps.Steps.{OthersRespect}
use Rattle.weak_laws.specs.Maps.Within.{OwnWithin}
use Rattle.weak_maps.specs.Beside.{held_by}
use Rattle.weak_maps.specs.Fields.{IsBeside}
use Rattle.weak_maps.specs.Walks.{OwnQuiet}

-- what `map_get` leaves: the map is one still, no block was changed by the domain, the register of the answer holds what the reply shows, register 8 nothing, and the others what they held
pub record GetLeaves (z : Sizes) (d : ℕ) (old new : List Entry) (root : Label) (dst : ℕ) (r : Reply) : Type 0 where
  pub map : IsMap (graph_of z new) root
  pub quiet : OwnQuiet z d old new
  pub holds : shown (held_by z d new dst) ≡ r
  pub clean : held_by z d new 8 ≡ Nothing
  pub keeps : (i : ℕ) → i ≢ 8 → i ≢ dst → held_by z d new i ≡ held_by z d old i

-- `map_get`, by what the register of the key holds
abbrev pub GetReturns : Sizes → ℕ → List Entry → List Entry → Label → ℕ → Value → Reply → Type 0
GetReturns z d old new root dst (Block k) r = GetAnswers z root d old new (Block k) r × GetLeaves z d old new root dst r
GetReturns z d old new root dst key r = GetAnswers z root d old new key r

-- `map_make`: a new map that binds nothing, in a register. Its root alone is made, behind entries of others
pub record MakesMap (z : Sizes) (d : ℕ) (old new : List Entry) (dst : ℕ) (root : Label) : Type 0 where
  pub map : IsMap (graph_of z new) root
  pub empty : (k : Label) → bound_after z root new k ≡ None
  pub placed : IsInPlace z.domains (graph_of z new) root
  pub holds : held_by z d new dst ≡ Block root
  pub keeps : (i : ℕ) → i ≢ dst → held_by z d new i ≡ held_by z d old i
  pub front : List Entry
  pub since : IsPrefix old front
  pub until : IsPrefix front new
  pub fresh : node_at (graph_of z front) root ≡ None
  pub made : graph_of z new ≡ graph_of z front ++ (root, new_plain 0 root_width) ∷ []

-- or the allocation was refused: the domain changed nothing
pub record MakesNone (z : Sizes) (d : ℕ) (old new : List Entry) : Type 0 where
  pub quiet : OwnQuiet z d old new
  pub keeps : (i : ℕ) → held_by z d new i ≡ held_by z d old i

abbrev pub MakeReturns : Sizes → ℕ → List Entry → List Entry → ℕ → Reply → Type 0
MakeReturns z d old new dst r = ((root : Label) × (r ≡ reply.Block root) × MakesMap z d old new dst root) ⊎ ((r ≡ reply.Full) × MakesNone z d old new)

-- what `map_take` and `map_put` leave: the map is one still, no block was written but of the map and of the call's own, registers 8 to 11 hold nothing, and the others what they held
pub record TakeLeaves (z : Sizes) (d : ℕ) (old new : List Entry) (root : Label) : Type 0 where
  pub map : IsMap (graph_of z new) root
  pub within : OwnWithin z root d old old new
  pub clean : (i : ℕ) → 8 ≤ i → i ≤ 11 → held_by z d new i ≡ Nothing
  pub keeps : (i : ℕ) → IsBeside i → held_by z d new i ≡ held_by z d old i

-- `map_take`, by what the register of the key holds
abbrev pub TakeReturns : Sizes → ℕ → List Entry → List Entry → Label → Value → Reply → Type 0
TakeReturns z d old new root (Block k) r = TakeAnswers z root d old new (Block k) r × TakeLeaves z d old new root
TakeReturns z d old new root key r = TakeAnswers z root d old new key r

-- `map_put`, by what the registers of the key and of the datum hold. Each leaf that binds a key stands on its key's way still
abbrev pub PutReturns : Sizes → ℕ → List Entry → List Entry → Label → Value → Value → Reply → Type 0
PutReturns z d old new root (Block k) (Int i) r = PutAnswers z root d old new (Block k) (Int i) r × TakeLeaves z d old new root × IsInPlace z.domains (graph_of z new) root
PutReturns z d old new root (Block k) (Block l) r = PutAnswers z root d old new (Block k) (Block l) r × TakeLeaves z d old new root × IsInPlace z.domains (graph_of z new) root
PutReturns z d old new root key v r = PutAnswers z root d old new key v r

-- what a call answers and leaves of whatever map stands in a register when it begins, if others respect the map until it ends
abbrev pub GetsAt : Sizes → ℕ → List Entry → List Entry → ℕ → ℕ → ℕ → Reply → Type 0
GetsAt z d old new dst map key r = (root : Label) → held_by z d old map ≡ Block root → IsMap (graph_of z old) root → OthersRespect z root d old new → GetReturns z d old new root dst (held_by z d old key) r

abbrev pub TakesAt : Sizes → ℕ → List Entry → List Entry → ℕ → ℕ → Reply → Type 0
TakesAt z d old new map key r = (root : Label) → held_by z d old map ≡ Block root → IsMap (graph_of z old) root → OthersRespect z root d old new → TakeReturns z d old new root (held_by z d old key) r

abbrev pub PutsAt : Sizes → ℕ → List Entry → List Entry → ℕ → ℕ → ℕ → Reply → Type 0
PutsAt z d old new map key item r = (root : Label) → held_by z d old map ≡ Block root → IsMap (graph_of z old) root → IsInPlace z.domains (graph_of z old) root → OthersRespect z root d old new
    → PutReturns z d old new root (held_by z d old key) (held_by z d old item) r

-- a map with each leaf on its key's way is one still
abbrev pub FollowsAt : Sizes → ℕ → List Entry → List Entry → ℕ → Type 0
FollowsAt z d old new map = (root : Label) → held_by z d old map ≡ Block root → IsMap (graph_of z old) root → IsInPlace z.domains (graph_of z old) root → OthersRespect z root d old new
    → IsMap (graph_of z new) root × IsInPlace z.domains (graph_of z new) root
