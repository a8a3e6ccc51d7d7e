-- Where a call stands that is to write the field at which a key's way ends.
use Rattle.std.specs.Prelude.{◌≡◌, ◌≢◌, ◌<◌, ℕ, suc, ◌+◌, Bool, true, false, pos, List, [], ◌∷◌, ◌++◌, length, Some, None}
use Rattle.model_core.specs.declared.label.Label.{Label}
use Rattle.model_core.specs.declared.command.Command.TheVariants.{Forget}
use Rattle.model_core.specs.declared.entry.Entry.{Entry}
use Rattle.model_core.specs.declared.graph.Value.{Value}
use Rattle.model_core.specs.declared.graph.Value.TheVariants.{Block, Int}
use Rattle.model_core.specs.declared.reply.Reply.{Reply}
use Rattle.model_core.specs.declared.state.Sizes.{Sizes}
use Rattle.model_core.specs.Commands.{shown}
use Rattle.model_core.specs.History.{IsPrefix}
use Rattle.weak_laws.specs.Tables.Stages.{graph_of}
use Rattle.weak_laws.specs.Maps.Tries.{at, inside, low_digits, way_to, way_length, width_at, IsMap}
use Rattle.weak_laws.specs.Maps.Steps.{OthersRespect}
use Rattle.weak_laws.specs.Maps.Calls.{PerformedBy, bound_after}
use Rattle.weak_maps.specs.Beside.{held_by}
use Rattle.weak_maps.specs.Walks.{HoldsLeaf, Looking}

-- from one front to a later one a map is a map still, and its blocks stand where they stood
pub record MapStays (z : Sizes) (root : Label) (now later : List Entry) : Type 0 where
  pub map : IsMap (graph_of z later) root
  pub block : (q : List ℕ) (u : Value) (fields : List Value) → at (inside (graph_of z now)) q (Block root) ≡ Some u → inside (graph_of z now) u ≡ Some fields
      → (at (inside (graph_of z later)) q (Block root) ≡ Some u) × ((left : List Value) × (inside (graph_of z later) u ≡ Some left))

-- registers that a put or a take doesn't use
abbrev pub IsBeside : ℕ → Type 0
IsBeside i = (i ≢ 8) × (i ≢ 9) × (i ≢ 10) × (i ≢ 11)

-- register 8 holds a block on a key's way, whose next digit is this, the others are the digits of a number, and register 9 holds what its field held at a front
pub record AtField (z : Sizes) (d : ℕ) (first front now : List Entry) (root k : Label) (index rest : ℕ) (at_end : Reply) : Type 0 where
  pub p : List ℕ
  pub left : ℕ
  pub all : length p + suc left ≡ way_length
  pub way : way_to z.domains k ≡ p ++ index ∷ low_digits left rest
  pub l : Label
  pub held : held_by z d now 8 ≡ Block l
  pub v : Value
  pub holds : held_by z d now 9 ≡ v
  pub shows : at_end ≡ shown v
  pub since : IsPrefix first front
  pub until : IsPrefix front now
  pub there : at (inside (graph_of z front)) p (Block root) ≡ Some (Block l)
  pub fields : List Value
  pub plain : inside (graph_of z front) (Block l) ≡ Some fields
  pub was : at (inside (graph_of z front)) (p ++ index ∷ []) (Block root) ≡ Some v
  pub narrow : index < width_at p
  pub map : IsMap (graph_of z front) root
  pub stays : MapStays z root front now

-- a walk wrote no register but 8, 9 and 11
abbrev pub KeepsWalked : Sizes → ℕ → List Entry → List Entry → Type 0
KeepsWalked z d old new = (i : ℕ) → i ≢ 8 → i ≢ 9 → i ≢ 11 → held_by z d new i ≡ held_by z d old i

-- in the midst of a walk from a field on, of which the block stood so many steps below the root, and which has come down so many blocks
abbrev pub Walked : Sizes → Label → ℕ → List Entry → Label → List Entry → List Entry → ℕ → ℕ → Reply → ℕ → ℕ → Type 0
Walked z root d first k old now i rest s start n = Looking z root d first now × KeepsWalked z d old now × ((x : AtField z d first now now root k i rest s) × (start + n ≡ length x.p))

-- the field at which a key's way ends held a leaf of the key, which register 9 holds, or the key wasn't bound at a front
pub record FoundMine (z : Sizes) (d : ℕ) (first now : List Entry) (root k : Label) (index rest : ℕ) : Type 0 where
  pub shows : Reply
  pub front : List Entry
  pub field : AtField z d first front now root k index rest shows
  pub datum : Value
  pub leaf : HoldsLeaf z d now root k (Some datum) 9
  pub same : held_by z d now 9 ≡ field.v

pub record FoundNone (z : Sizes) (first now : List Entry) (root k : Label) : Type 0 where
  pub front : List Entry
  pub since : IsPrefix first front
  pub until : IsPrefix front now
  pub bound : bound_after z root front k ≡ None

abbrev pub FoundBy : Sizes → ℕ → List Entry → List Entry → Label → Label → ℕ → ℕ → Bool → Type 0
FoundBy z d first now root k index rest true = FoundMine z d first now root k index rest
FoundBy z d first now root k index rest false = FoundNone z first now root k

-- what a walk from a field on finds, for whatever call it goes on and whatever map that is on, if others respect the map
abbrev pub Finds : Sizes → ℕ → List Entry → List Entry → ℕ → Label → ℕ → ℕ → Reply → ℕ → ℕ → Bool → Type 0
Finds z d old new kr k index rest at_end index_now rest_now mine = (first : List Entry) (root : Label) → held_by z d old kr ≡ Block k → Looking z root d first old → AtField z d first old old root k index rest at_end → OthersRespect z root d first new
    → Looking z root d first new × KeepsWalked z d old new × FoundBy z d first new root k index_now rest_now mine

-- registers 8 to 11 were emptied, one after the other
pub record Cleared (z : Sizes) (d : ℕ) (old new : List Entry) : Type 0 where
  pub first : List Entry
  pub second : List Entry
  pub third : List Entry
  pub eight_reply : Reply
  pub nine_reply : Reply
  pub ten_reply : Reply
  pub eleven_reply : Reply
  pub eight : PerformedBy z d old first (Forget 8) eight_reply
  pub nine : PerformedBy z d first second (Forget 9) nine_reply
  pub ten : PerformedBy z d second third (Forget 10) ten_reply
  pub eleven : PerformedBy z d third new (Forget 11) eleven_reply

-- a call that takes a binding out stands at a field that it has just read, and has 0 at hand
pub record Taking (z : Sizes) (d : ℕ) (old now : List Entry) (root k : Label) (index rest : ℕ) (at_end : Reply) : Type 0 where
  pub looking : Looking z root d old now
  pub field : AtField z d old now now root k index rest at_end
  pub keeps : (j : ℕ) → IsBeside j → held_by z d now j ≡ held_by z d old j
  pub ten : held_by z d now 10 ≡ Int (pos 0)
