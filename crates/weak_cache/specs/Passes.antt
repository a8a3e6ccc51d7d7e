-- Where a call on a cache stands between its commands.
use Rattle.std.specs.Prelude.{◌≡◌, ◌⊎◌, ◌<◌, ◌≤◌, ◌↔◌, ℕ, zero, suc, ◌+◌, Bool, true, false, cond, List, [], ◌∷◌, ◌++◌, length, slice_index_or, pos, Option, Some, None}
use Rattle.model_core.specs.declared.label.Label.{Label}
use Rattle.model_core.specs.declared.command.Command.TheVariants.{Copy, Forget, GetKey}
use Rattle.model_core.specs.declared.entry.Entry.{Entry}
use Rattle.model_core.specs.declared.graph.Value.{Value}
use Rattle.model_core.specs.declared.graph.Value.TheVariants.{Int, Block, Nothing}
use Rattle.model_core.specs.declared.graph.Node.TheVariants.{Plain, Ephe}
use Rattle.model_core.specs.declared.reply.Reply.{Reply}
use Rattle.model_core.specs.declared.reply.Reply.TheVariants as reply
use Rattle.model_core.specs.declared.state.Sizes.{Sizes}
use Rattle.model_core.specs.Graph.{node_at}
use Rattle.model_core.specs.History.{IsPrefix}
use Rattle.weak_laws.specs.Tables.Stages.{graph_of}
use Rattle.weak_laws.specs.Maps.Tries.{at, inside, is_leaf}
use Rattle.weak_laws.specs.Maps.Calls.{PerformedBy}
use Rattle.weak_maps.specs.Beside.{held_by}
use Rattle.weak_maps.specs.Commands.{IsBlock}
use Rattle.weak_maps.specs.Puts.{OwnBlock}
use Rattle.weak_cache.specs.Uses.{SlotLeft, is_of}
use Rattle.weak_cache.specs.Caches.{Gone, IsBeside, OthersSpare, OwnSpare, slot_of}

-- a block stood in a cache as a leaf, at this front or an earlier one
pub record StoodIn (z : Sizes) (c : Label) (h : List Entry) (l : Label) : Type 0 where
  pub former : List Entry
  pub before : IsPrefix former h
  pub place : List ℕ
  pub there : at (inside (graph_of z former)) place (Block c) ≡ Some (Block l)
  pub leaf : is_leaf (node_at (graph_of z former) l)

-- what a field held when the call began: 0, or a leaf that has what it had, but for a key that is gone
abbrev pub UseLeft : Sizes → Label → Label → List Entry → List Entry → Value → Type 0
UseLeft z c k first now (Int a) = a ≡ pos 0
UseLeft z c k first now (Block l) = StoodIn z c now l × is_leaf (node_at (graph_of z now) l) × SlotLeft (Gone z k first now) (slot_of (graph_of z first) (Block l)) (slot_of (graph_of z now) (Block l))
UseLeft z c k first now Nothing = ⊥

-- a call has come to a front at which a cache's fields are these, and what the fields held when it began is left
pub record Core (z : Sizes) (first now : List Entry) (c k : Label) (fs gs : List Value) : Type 0 where
  pub grows : IsPrefix first now
  pub tag : ℕ
  pub block : node_at (graph_of z now) c ≡ Some (Plain tag gs)
  pub uses : (j : ℕ) → j < length fs → UseLeft z c k first now (slice_index_or fs j Nothing)

-- and register 12 holds the key, register 13 the cache
pub record Keeping (z : Sizes) (d : ℕ) (first now : List Entry) (c k : Label) (fs gs : List Value) : Type 0 where
  pub core : Core z first now c k fs gs
  pub key : held_by z d now 12 ≡ Block k
  pub cache : held_by z d now 13 ≡ Block c
  pub spared : OwnSpare z c d first now

-- the other registers are as they were
abbrev pub KeepsBeside : Sizes → ℕ → List Entry → List Entry → Type 0
KeepsBeside z d old new = (r : ℕ) → IsBeside r → held_by z d new r ≡ held_by z d old r

-- whether a value was a leaf of a key when the call began
abbrev pub was_of : Sizes → List Entry → Label → Value → Bool
was_of z first k v = is_of k (slot_of (graph_of z first) v)

-- the first so many fields weren't
abbrev pub NoneIsOf : Sizes → List Entry → Label → List Value → ℕ → Type 0
NoneIsOf z first k fs n = (j : ℕ) → j < n → was_of z first k (slice_index_or fs j Nothing) ≡ false

-- a search has passed so many fields
abbrev pub Finding : Sizes → ℕ → List Entry → List Entry → Label → Label → List Value → ℕ → Type 0
Finding z d first now c k fs n = Keeping z d first now c k fs fs × NoneIsOf z first k fs n

-- it has found a leaf of the key in the i-th, which register 10 holds
pub record FoundLeaf (z : Sizes) (d : ℕ) (first now : List Entry) (c k : Label) (fs : List Value) (i : ℕ) : Type 0 where
  pub keeps : Keeping z d first now c k fs fs
  pub inner : i < length fs
  pub none : NoneIsOf z first k fs i
  pub l : Label
  pub v : Value
  pub field : slice_index_or fs i Nothing ≡ Block l
  pub held : held_by z d now 10 ≡ Block l
  pub node : node_at (graph_of z now) l ≡ Some (Ephe (Some k ∷ []) v)
  pub had : slot_of (graph_of z first) (Block l) ≡ Some (k, v)

abbrev pub FoundBy : Sizes → ℕ → List Entry → List Entry → Label → Label → List Value → Option ℕ → Type 0
FoundBy z d first now c k fs (Some i) = FoundLeaf z d first now c k fs i
FoundBy z d first now c k fs None = Finding z d first now c k fs (length fs)

-- a leaf has come into the first so many fields, each that they held one field on, and this is what is left to come into the next
abbrev pub moved : ℕ → Value → List Value → List Value
moved zero x fs = fs
moved (suc n) x [] = []
moved (suc n) x (f ∷ fs) = x ∷ moved n f fs

abbrev pub carried : ℕ → Value → List Value → Value
carried zero x fs = x
carried (suc n) x [] = x
carried (suc n) x (f ∷ fs) = carried n f fs

-- a value comes first, those before the first of a kind go one on, and that one goes, or the last
abbrev pub moved_by : (Value → Bool) → Value → List Value → List Value
moved_by is x [] = []
moved_by is x (f ∷ fs) = x ∷ cond (is f) fs (moved_by is f fs)

-- a leaf of the key is in the making still, or in the cache
abbrev pub IsAtHand : Sizes → ℕ → List Entry → Label → Label → Label → Value → ℕ → Type 0
IsAtHand z d now c k l v n = ((n ≡ 0) × OwnBlock z d now c 10 l (Ephe (Some k ∷ []) v)) ⊎ StoodIn z c now l

-- it has come so far
pub record Moving (z : Sizes) (d : ℕ) (first now : List Entry) (c k l : Label) (v : Value) (fs : List Value) (n : ℕ) : Type 0 where
  pub keeps : Keeping z d first now c k fs (moved n (Block l) fs)
  pub none : NoneIsOf z first k fs n
  pub held : held_by z d now 10 ≡ carried n (Block l) fs
  pub at_hand : IsAtHand z d now c k l v n
  pub node : node_at (graph_of z now) l ≡ Some (Ephe (Some k ∷ []) v)

-- it has come first, and all is moved
pub record Moved (z : Sizes) (d : ℕ) (first now : List Entry) (c k l : Label) (v : Value) (fs : List Value) : Type 0 where
  pub keeps : Keeping z d first now c k fs (moved_by (was_of z first k) (Block l) fs)
  pub stood : StoodIn z c now l
  pub node : node_at (graph_of z now) l ≡ Some (Ephe (Some k ∷ []) v)

abbrev pub MovesOn : Sizes → ℕ → List Entry → List Entry → Label → Label → Label → Value → List Value → ℕ → Bool → Type 0
MovesOn z d first now c k l v fs n true = Moving z d first now c k l v fs (n + 1)
MovesOn z d first now c k l v fs n false = Moved z d first now c k l v fs

-- the key of a leaf in a register was read into register 11, where a reply shows that it holds a block
abbrev pub Tells : Sizes → ℕ → List Entry → List Entry → ℕ → Reply → Label → Bool → Type 0
Tells z d old new slot shows k mine = ((IsBlock shows → ⊥) × (new ≡ old) × (mine ≡ false)) ⊎ ((r : Reply) × IsBlock shows × PerformedBy z d old new (GetKey 11 slot 0) r × ((mine ≡ true) ↔ (r ≡ reply.Block k)))

-- one field is passed, of whatever cache on whatever call, if others spare the cache
abbrev pub Passes : Sizes → ℕ → List Entry → List Entry → Label → ℕ → Bool → Type 0
Passes z d old new k n on = (first : List Entry) (c l : Label) (v : Value) (fs : List Value) → OthersSpare z c d first new → n < length fs → Moving z d first old c k l v fs n → MovesOn z d first new c k l v fs n on × KeepsBeside z d old new

-- all are
abbrev pub MovesFirst : Sizes → ℕ → List Entry → List Entry → Label → ℕ → Type 0
MovesFirst z d old new k size = (first : List Entry) (c l : Label) (v : Value) (fs : List Value) → OthersSpare z c d first new → length fs ≡ size → 1 ≤ size → Moving z d first old c k l v fs 0 → Moved z d first new c k l v fs × KeepsBeside z d old new

-- a leaf of the key is looked for
abbrev pub FindsLeaf : Sizes → ℕ → List Entry → List Entry → Label → ℕ → Option ℕ → Type 0
FindsLeaf z d old new k size found = (first : List Entry) (c : Label) (fs : List Value) → OthersSpare z c d first new → length fs ≡ size → Finding z d first old c k fs 0 → FoundBy z d first new c k fs found × KeepsBeside z d old new

-- so many fields behind the i-th have each come one field forward
abbrev pub drawn : ℕ → ℕ → List Value → List Value
drawn zero zero fs = fs
drawn zero (suc n) [] = []
drawn zero (suc n) (f ∷ fs) = slice_index_or fs 0 f ∷ drawn zero n fs
drawn (suc i) n [] = []
drawn (suc i) n (f ∷ fs) = f ∷ drawn i n fs

-- all have, and the last is 0
abbrev pub cut_out : ℕ → List Value → List Value
cut_out i [] = []
cut_out zero (f ∷ fs) = fs ++ Int (pos 0) ∷ []
cut_out (suc i) (f ∷ fs) = f ∷ cut_out i fs

-- one more has, of whatever cache on whatever call, if others spare the cache
abbrev pub Draws : Sizes → ℕ → List Entry → List Entry → ℕ → Type 0
Draws z d old new j = (first : List Entry) (c k : Label) (fs : List Value) (i n : ℕ) → OthersSpare z c d first new → j ≡ i + n → j + 1 < length fs → Keeping z d first old c k fs (drawn i n fs) → Keeping z d first new c k fs (drawn i (n + 1) fs) × KeepsBeside z d old new

-- all have
abbrev pub DrawsBehind : Sizes → ℕ → List Entry → List Entry → ℕ → ℕ → Type 0
DrawsBehind z d old new i size = (first : List Entry) (c k : Label) (fs : List Value) (n : ℕ) → OthersSpare z c d first new → length fs ≡ size → i + n + 1 ≡ size → Keeping z d first old c k fs fs → Keeping z d first new c k fs (drawn i n fs) × KeepsBeside z d old new

-- and the last is 0
abbrev pub CutsOut : Sizes → ℕ → List Entry → List Entry → ℕ → ℕ → Type 0
CutsOut z d old new i size = (first : List Entry) (c k : Label) (fs : List Value) → OthersSpare z c d first new → length fs ≡ size → i < size → Keeping z d first old c k fs fs → Keeping z d first new c k fs (cut_out i fs) × KeepsBeside z d old new

-- the key and the cache were copied into registers 12 and 13
pub record Begun (z : Sizes) (d : ℕ) (old new : List Entry) (cache key : ℕ) : Type 0 where
  pub one : List Entry
  pub key_reply : Reply
  pub cache_reply : Reply
  pub keys : PerformedBy z d old one (Copy 12 key) key_reply
  pub caches : PerformedBy z d one new (Copy 13 cache) cache_reply

-- registers 9 to 13 were emptied, that of the key last
pub record Cleared (z : Sizes) (d : ℕ) (old new : List Entry) : Type 0 where
  pub one : List Entry
  pub two : List Entry
  pub three : List Entry
  pub four : List Entry
  pub nine_reply : Reply
  pub ten_reply : Reply
  pub eleven_reply : Reply
  pub thirteen_reply : Reply
  pub twelve_reply : Reply
  pub nine : PerformedBy z d old one (Forget 9) nine_reply
  pub ten : PerformedBy z d one two (Forget 10) ten_reply
  pub eleven : PerformedBy z d two three (Forget 11) eleven_reply
  pub thirteen : PerformedBy z d three four (Forget 13) thirteen_reply
  pub twelve : PerformedBy z d four new (Forget 12) twelve_reply
