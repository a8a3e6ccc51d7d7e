-- What a sweep does: of the whole map, of a block of it, and of one field.
use Rattle.std.specs.Prelude.{◌≡◌, ◌≢◌, ◌↔◌, ◌<◌, ◌≤◌, ℕ, ◌+◌, ◌-◌, Bool, true, false, pos, List, [], ◌∷◌, ◌++◌, length, Some}
use Rattle.model_core.specs.declared.label.Label.{Label}
use Rattle.model_core.specs.declared.command.Command.TheVariants.{Cas, GetKey, Load, PutInt}
use Rattle.model_core.specs.declared.entry.Entry.{Entry}
use Rattle.model_core.specs.declared.graph.Value.{Value}
use Rattle.model_core.specs.declared.graph.Value.TheVariants.{Block, Nothing}
use Rattle.model_core.specs.declared.reply.Reply.{Reply}
use Rattle.model_core.specs.declared.reply.Reply.TheVariants as reply
use Rattle.model_core.specs.declared.state.Sizes.{Sizes}
use Rattle.weak_laws.specs.Tables.Stages.{graph_of}
use Rattle.weak_laws.specs.Maps.Tries.{at, inside, width_at, IsInPlace, IsMap}
use Rattle.weak_laws.specs.Maps.Steps.{OthersRespect}
use Rattle.weak_laws.specs.Maps.Calls.{Looks, PerformedBy}
use Rattle.weak_laws.specs.Maps.Within.{OwnWithin, StandsIn}
use Rattle.weak_maps.specs.Beside.{held_by}
use Rattle.weak_maps.specs.Commands.{IsBlock}
use Rattle.weak_maps.specs.declared.sweeps.sweeping.Held.{Held}
use Rattle.weak_maps.specs.declared.sweeps.sweeping.Held.TheVariants.{Free, Live, Dead, Inner}
use Rattle.weak_maps.specs.Sweeps.Dead.{OthersBringNoDead, OwnBringNoDead, OwnClear, StandsDead, StoodDead}

-- a field of the block in a register was read into another, and held no block
pub record ReadsNone (z : Sizes) (d : ℕ) (old new : List Entry) (block value i : ℕ) : Type 0 where
  pub shows : Reply
  pub reads : PerformedBy z d old new (Load value block i) shows
  pub none : IsBlock shows → ⊥

-- or it held a block, which was asked for its key
pub record ReadsBlock (z : Sizes) (d : ℕ) (old new : List Entry) (block value i : ℕ) (key : Reply) : Type 0 where
  pub between : List Entry
  pub shows : Reply
  pub reads : PerformedBy z d old between (Load value block i) shows
  pub some : IsBlock shows
  pub asks : PerformedBy z d between new (GetKey 15 value 0) key

-- by what the field is said to hold
abbrev pub Peeks : Sizes → ℕ → List Entry → List Entry → ℕ → ℕ → ℕ → Held → Type 0
Peeks z d old new block value i Free = ReadsNone z d old new block value i
Peeks z d old new block value i Live = (key : Reply) × (key ≢ reply.Empty) × (key ≢ reply.BadType) × ReadsBlock z d old new block value i key
Peeks z d old new block value i Dead = ReadsBlock z d old new block value i reply.Empty
Peeks z d old new block value i Inner = ReadsBlock z d old new block value i reply.BadType

-- 0 came into register 15, and was to be put into a field in place of what a register holds
pub record Exchanged (z : Sizes) (d : ℕ) (old new : List Entry) (block value i : ℕ) (won : Bool) : Type 0 where
  pub between : List Entry
  pub done : Reply
  pub zero : PerformedBy z d old between (PutInt 15 (pos 0)) done
  pub told : Reply
  pub tries : PerformedBy z d between new (Cas block i value 15) told
  pub yes : (won ≡ true) ↔ (told ≡ reply.Yes)

-- a register holds a block of a map, so many blocks above the lowest
pub record AtBlock (z : Sizes) (d : ℕ) (now : List Entry) (root : Label) (p : List ℕ) (l : Label) (block left : ℕ) : Type 0 where
  pub map : IsMap (graph_of z now) root
  pub deep : length p + left ≡ 6
  pub there : at (inside (graph_of z now)) p (Block root) ≡ Some (Block l)
  pub fields : List Value
  pub plain : inside (graph_of z now) (Block l) ≡ Some fields
  pub held : held_by z d now block ≡ Block l

-- registers below one are as they were
abbrev pub KeepsBelow : Sizes → ℕ → List Entry → List Entry → ℕ → Type 0
KeepsBelow z d old new value = (r : ℕ) → r < value → held_by z d new r ≡ held_by z d old r

-- unless others bring one there, no leaf that was dead and had stood in the map stands at a place or below it
abbrev pub NoDeadAt : Sizes → Label → ℕ → List Entry → List Entry → List ℕ → Type 0
NoDeadAt z root d old new here = OthersBringNoDead z root d old new → (l : Label) → StoodDead z root old l → (q : List ℕ) → at (inside (graph_of z new)) (here ++ q) (Block root) ≢ Some (Block l)

-- a register holds an inner block, which stands at a place
pub record HoldsInner (z : Sizes) (d : ℕ) (now : List Entry) (root : Label) (here : List ℕ) (value : ℕ) : Type 0 where
  pub l : Label
  pub held : held_by z d now value ≡ Block l
  pub there : at (inside (graph_of z now)) here (Block root) ≡ Some (Block l)
  pub fields : List Value
  pub plain : inside (graph_of z now) (Block l) ≡ Some fields

-- what is left of a field: an inner block that is to be swept, or nothing
abbrev pub LeavesField : Sizes → ℕ → List Entry → List Entry → Label → List ℕ → ℕ → Bool → Type 0
LeavesField z d old new root here value true = HoldsInner z d new root here value
LeavesField z d old new root here value false = NoDeadAt z root d old new here

-- a dead leaf was taken out of a field, if one was there
pub record FieldSettled (z : Sizes) (d : ℕ) (old new : List Entry) (root : Label) (here : List ℕ) (value : ℕ) (inner : Bool) : Type 0 where
  pub clear : OwnClear z root d old new
  pub low : KeepsBelow z d old new value
  pub leaves : LeavesField z d old new root here value inner

-- of whatever block of whatever map that is, if others respect it
abbrev pub Settled : Sizes → ℕ → List Entry → List Entry → ℕ → ℕ → ℕ → Bool → Type 0
Settled z d old new block left i inner = (root : Label) (p : List ℕ) (l : Label) → AtBlock z d old root p l block left → i < width_at p → OthersRespect z root d old new → FieldSettled z d old new root (p ++ i ∷ []) (14 - left) inner

-- a field was swept, and what stands below it
pub record FieldSwept (z : Sizes) (d : ℕ) (old new : List Entry) (root : Label) (here : List ℕ) (value : ℕ) : Type 0 where
  pub clear : OwnClear z root d old new
  pub low : KeepsBelow z d old new value
  pub gone : NoDeadAt z root d old new here

abbrev pub SweepsField : Sizes → ℕ → List Entry → List Entry → ℕ → ℕ → ℕ → Type 0
SweepsField z d old new block left i = (root : Label) (p : List ℕ) (l : Label) → AtBlock z d old root p l block left → i < width_at p → OthersRespect z root d old new → FieldSwept z d old new root (p ++ i ∷ []) (14 - left)

-- and so many fields of a block
pub record BlockSwept (z : Sizes) (d : ℕ) (old new : List Entry) (root : Label) (p : List ℕ) (value n : ℕ) : Type 0 where
  pub clear : OwnClear z root d old new
  pub low : KeepsBelow z d old new value
  pub gone : (j : ℕ) → j < n → NoDeadAt z root d old new (p ++ j ∷ [])

abbrev pub SweepsBlock : Sizes → ℕ → List Entry → List Entry → ℕ → ℕ → ℕ → Type 0
SweepsBlock z d old new block left n = (root : Label) (p : List ℕ) (l : Label) → AtBlock z d old root p l block left → OthersRespect z root d old new → BlockSwept z d old new root p (14 - left) n

-- A sweep changes no binding, and does to the map only what others may rely on: each of its entries leaves all blocks, or takes a leaf that binds nothing out.
-- No leaf stands in the map then that stood there dead when it began. Its own entries bring none
pub record SweepAnswers (z : Sizes) (root : Label) (d : ℕ) (old new : List Entry) : Type 0 where
  pub looks : Looks z root d old new
  pub clear : OwnClear z root d old new
  pub own : OwnBringNoDead z root d old new
  pub gone : (l : Label) → StandsDead (graph_of z old) root l → StandsIn (graph_of z new) root l → ⊥

-- what `map_sweep` leaves: the map is one still, each leaf that binds a key stands on its way if it did, no block was written but of the map, registers 8 to 15 hold nothing, and the others what they held
pub record SweepLeaves (z : Sizes) (d : ℕ) (old new : List Entry) (root : Label) : Type 0 where
  pub map : IsMap (graph_of z new) root
  pub placed : IsInPlace z.domains (graph_of z old) root → IsInPlace z.domains (graph_of z new) root
  pub within : OwnWithin z root d old old new
  pub clean : (r : ℕ) → 8 ≤ r → r < 16 → held_by z d new r ≡ Nothing
  pub registers : (r : ℕ) → r < 8 → held_by z d new r ≡ held_by z d old r

-- `map_sweep` of whatever map a register holds, if others respect it
abbrev pub SweepReturns : Sizes → ℕ → List Entry → List Entry → ℕ → Type 0
SweepReturns z d old new map = (root : Label) → held_by z d old map ≡ Block root → IsMap (graph_of z old) root → OthersRespect z root d old new → SweepAnswers z root d old new × SweepLeaves z d old new root
