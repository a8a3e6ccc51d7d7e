-- What one try of a put leads to.
use Rattle.std.specs.Prelude.{◌≡◌, ◌<◌, ◌⊎◌, ℕ, ◌+◌, ◌≤◌, List, ◌++◌, length, Option, Some}
use Rattle.model_core.specs.declared.label.Label.{Label}
use Rattle.model_core.specs.declared.entry.Entry.{Entry}
use Rattle.model_core.specs.declared.graph.Value.{Value}
use Rattle.model_core.specs.declared.graph.Value.TheVariants.{Block}
use Rattle.model_core.specs.declared.reply.Reply.TheVariants as reply
use Rattle.model_core.specs.declared.state.Sizes.{Sizes}
use Rattle.weak_laws.specs.Tables.Stages.{graph_of}
use Rattle.weak_laws.specs.Maps.Tries.{way_to, IsMap, IsInPlace}
use Rattle.weak_laws.specs.Maps.Steps.{OthersLeave, OthersRespect}
use Rattle.weak_laws.specs.Maps.Calls.{PutsOrFull}
use Rattle.weak_maps.specs.declared.putting.Try.{Try}
use Rattle.weak_maps.specs.declared.putting.Try.TheVariants.{Over, Again}
use Rattle.weak_maps.specs.Beside.{held_by, refusals_by}
use Rattle.weak_maps.specs.Puts.{Arrived, IsBlockAt, Putting}
use Rattle.weak_maps.specs.Returns.{TakeLeaves}

-- how many blocks more may be made, of so many before the try
abbrev pub rooms_after : ℕ → Try → ℕ
rooms_after rooms (Over r) = rooms
rooms_after rooms (Again shows left) = left

-- an allocation is refused only where the try ends the call as `full`, and there all but where no block more may be made and a leaf of another key was met
abbrev pub TryRefuses : ℕ → Option Label → ℕ → ℕ → Try → Type 0
TryRefuses rooms other refused now (Over reply.Done) = now ≡ refused
TryRefuses rooms other refused now (Over reply.Full) = ((now ≡ refused + 1) × (0 < rooms)) ⊎ ((now ≡ refused) × (rooms ≡ 0) × ((j : Label) × (other ≡ Some j)))
TryRefuses rooms other refused now (Over r) = ⊥
TryRefuses rooms other refused now (Again shows left) = now ≡ refused

-- the call is over, or it stands at the field again
abbrev pub SettledBy : Sizes → ℕ → List Entry → List Entry → Label → Label → Value → ℕ → ℕ → ℕ → Try → Type 0
SettledBy z d old new root k v index rest level (Over r) = PutsOrFull z root d old new k v r × TakeLeaves z d old new root
SettledBy z d old new root k v index rest level (Again shows rooms) = Putting z d old new root k v index rest shows level

-- for whatever call it goes on and whatever map that is on, if others respect it
abbrev pub Settles : Sizes → ℕ → List Entry → List Entry → Label → ℕ → ℕ → ℕ → Option Label → Try → Type 0
Settles z d now new k index rest level other try = (old : List Entry) (root : Label) (v : Value) (key : ℕ) → key < 8 → held_by z d old key ≡ Block k → IsMap (graph_of z old) root → IsInPlace z.domains (graph_of z old) root
    → Arrived z d old now root k v index rest level other → OthersRespect z root d old new → SettledBy z d old new root k v index rest level try

-- a block of a map stands on a key's way, so far from its end that below it are no more than so many
pub record IsDeep (z : Sizes) (h : List Entry) (root k : Label) (rooms : ℕ) : Type 0 where
  pub p : List ℕ
  pub rest : List ℕ
  pub way : way_to z.domains k ≡ p ++ rest
  pub block : IsBlockAt z h root p
  pub deep : 6 ≤ length p + rooms

-- where no other domain uses the map, a try that ends as `full` does so of a refusal, and one that goes on has made room on the key's way
abbrev pub AloneBy : Sizes → ℕ → List Entry → List Entry → Label → Label → Try → Type 0
AloneBy z d now new root k (Over reply.Full) = refusals_by d new ≡ refusals_by d now + 1
AloneBy z d now new root k (Over r) = Unit {0}
AloneBy z d now new root k (Again shows left) = IsDeep z new root k left

abbrev pub SettlesAlone : Sizes → ℕ → List Entry → List Entry → Label → ℕ → ℕ → ℕ → Option Label → ℕ → Try → Type 0
SettlesAlone z d now new k index rest level other rooms try = (old : List Entry) (root : Label) (v : Value) (key : ℕ) → key < 8 → held_by z d old key ≡ Block k → IsMap (graph_of z old) root → IsInPlace z.domains (graph_of z old) root
    → Arrived z d old now root k v index rest level other → IsDeep z now root k rooms → OthersRespect z root d old new → OthersLeave z root d old new → AloneBy z d now new root k try
