-- What a put needs and makes: where leaves stand, what a field binds at most, and a leaf in the making.
use Rattle.std.specs.Prelude.{◌≡◌, ◌≢◌, ◌⊎◌, ◌<◌, ℕ, zero, suc, ◌+◌, ◌/◌, Bool, true, false, cond, List, [], ◌∷◌, ◌++◌, length, Option, Some, None, pos}
use Rattle.model_core.specs.declared.label.Label.{Label}
use Rattle.model_core.specs.declared.command.Command.TheVariants.{Ephe as NewEphe, SetData, SetKey}
use Rattle.model_core.specs.declared.entry.Entry.{Entry}
use Rattle.model_core.specs.declared.graph.Value.{Value}
use Rattle.model_core.specs.declared.graph.Value.TheVariants.{Int, Block, Nothing}
use Rattle.model_core.specs.declared.graph.Node.{Node}
use Rattle.model_core.specs.declared.graph.Node.TheVariants.{Ephe}
use Rattle.model_core.specs.declared.reply.Reply.{Reply}
use Rattle.model_core.specs.declared.reply.Reply.TheVariants as reply
use Rattle.model_core.specs.declared.state.Sizes.{Sizes}
use Rattle.model_core.specs.Graph.{Graph, node_at, same_label}
use Rattle.model_core.specs.History.{IsPrefix}
use Rattle.weak_laws.specs.Tables.Thinning.{state_of}
use Rattle.weak_laws.specs.Tables.Stages.{graph_of}
use Rattle.weak_laws.specs.Maps.Tries.{at, inside, bound_by, is_leaf, node_width, root_width, way_to, IsMap}
use Rattle.weak_laws.specs.Maps.Steps.{OthersLeave, OthersRespect}
use Rattle.weak_laws.specs.Maps.Calls.{ChangesOne, Looks, PerformedBy}
use Rattle.weak_laws.specs.Maps.Private.{IsPrivate}
use Rattle.weak_laws.specs.Maps.Within.{IsMadeBehind, OwnWithin}
use Rattle.weak_maps.specs.Beside.{held_by}
use Rattle.weak_maps.specs.Walks.{Looking}
use Rattle.weak_maps.specs.Fields.{AtField, IsBeside, KeepsWalked, MapStays}

-- a leaf of this key, or of none
abbrev pub IsLeafOf : Graph → Label → Label → Type 0
IsLeafOf g k l = (datum : Value) × ((node_at g l ≡ Some (Ephe (Some k ∷ []) datum)) ⊎ (node_at g l ≡ Some (Ephe (None ∷ []) datum)))

-- what binds no key but this one: 0, or such a leaf
abbrev pub BindsOnly : Graph → Label → Value → Type 0
BindsOnly g k (Int i) = i ≡ pos 0
BindsOnly g k (Block l) = IsLeafOf g k l
BindsOnly g k Nothing = ⊥

-- a register holds a block that only the domain holds, and that never stood as a leaf in a map
pub record OwnBlock (z : Sizes) (d : ℕ) (now : List Entry) (root : Label) (r : ℕ) (l : Label) (n : Node) : Type 0 where
  pub held : held_by z d now r ≡ Block l
  pub private : IsPrivate (state_of z now) d l
  pub apart : root ≢ l
  pub never : (former : List Entry) (p : List ℕ) → IsPrefix former now → at (inside (graph_of z former)) p (Block root) ≡ Some (Block l) → is_leaf (node_at (graph_of z former) l) → ⊥
  pub node : node_at (graph_of z now) l ≡ Some n

-- a call went on: it changed no binding so far, and a map is one still
pub record GoesOn (z : Sizes) (root : Label) (d : ℕ) (old now : List Entry) : Type 0 where
  pub looks : Looks z root d old now
  pub within : OwnWithin z root d old old now
  pub grows : IsPrefix old now
  pub map : IsMap (graph_of z now) root

-- a leaf of the key in a register was made, with the datum in another
pub record FilledLeaf (z : Sizes) (d : ℕ) (old new : List Entry) (key item : ℕ) : Type 0 where
  pub one : List Entry
  pub two : List Entry
  pub made_reply : Reply
  pub data_reply : Reply
  pub key_reply : Reply
  pub granted : made_reply ≢ reply.Full
  pub makes : PerformedBy z d old one (NewEphe 10 1) made_reply
  pub sets : PerformedBy z d one two (SetData 10 item) data_reply
  pub keys : PerformedBy z d two new (SetKey 10 0 key) key_reply

-- or its allocation was refused
abbrev pub FillsLeaf : Sizes → ℕ → List Entry → List Entry → ℕ → ℕ → Bool → Type 0
FillsLeaf z d old new key item true = FilledLeaf z d old new key item
FillsLeaf z d old new key item false = PerformedBy z d old new (NewEphe 10 1) reply.Full

-- a leaf of a key was made, and register 10 holds it
pub record LeafMade (z : Sizes) (d : ℕ) (old now : List Entry) (root k : Label) (v : Value) : Type 0 where
  pub on : GoesOn z root d old now
  pub keeps : (i : ℕ) → i ≢ 10 → held_by z d now i ≡ held_by z d old i
  pub l : Label
  pub made : IsMadeBehind z d old l
  pub leaf : OwnBlock z d now root 10 l (Ephe (Some k ∷ []) v)

-- or the allocation was refused
pub record LeafRefused (z : Sizes) (d : ℕ) (old now : List Entry) (root : Label) : Type 0 where
  pub on : GoesOn z root d old now
  pub keeps : (i : ℕ) → held_by z d now i ≡ held_by z d old i

abbrev pub MakesLeafBy : Sizes → ℕ → List Entry → List Entry → Label → Label → Value → Bool → Type 0
MakesLeafBy z d old now root k v true = LeafMade z d old now root k v
MakesLeafBy z d old now root k v false = LeafRefused z d old now root

-- whatever map that is for, if others respect it
abbrev pub MakesLeaf : Sizes → ℕ → List Entry → List Entry → ℕ → ℕ → Bool → Type 0
MakesLeaf z d old new key item made = (root k : Label) → held_by z d old key ≡ Block k → held_by z d old item ≢ Nothing → IsMap (graph_of z old) root → OthersRespect z root d old new
    → MakesLeafBy z d old new root k (held_by z d old item) made

-- what was read of a field binds no key but this one, and stood there as a leaf, if it is a block
pub record FieldBinds (z : Sizes) (front now : List Entry) (v : Value) (k : Label) : Type 0 where
  pub binds : BindsOnly (graph_of z now) k v
  pub leaf : (l : Label) → v ≡ Block l → is_leaf (node_at (graph_of z front) l)

-- a leaf was published: the key is bound by it
pub record Published (z : Sizes) (d : ℕ) (old new : List Entry) (root k l : Label) (v : Value) : Type 0 where
  pub map : IsMap (graph_of z new) root
  pub grows : IsPrefix old new
  pub before : Option Value
  pub changes : ChangesOne z root d old new k before (Some v)
  pub within : (first : List Entry) → IsMadeBehind z d first l → OwnWithin z root d first old new
  pub keeps : (i : ℕ) → held_by z d new i ≡ held_by z d old i

-- or another call wrote the field first: the leaf is as it was
pub record PublishLost (z : Sizes) (d : ℕ) (first front old new : List Entry) (root k : Label) (index rest : ℕ) (shows : Reply) (field : AtField z d first front old root k index rest shows) (l : Label) (v : Value) : Type 0 where
  pub on : GoesOn z root d old new
  pub at : (x : AtField z d first front new root k index rest shows) × (x.p ≡ field.p)
  pub leaf : OwnBlock z d new root 10 l (Ephe (Some k ∷ []) v)
  pub keeps : (i : ℕ) → held_by z d new i ≡ held_by z d old i

abbrev pub PublishesBy : (z : Sizes) (d : ℕ) (first front old new : List Entry) (root k : Label) (index rest : ℕ) (shows : Reply) → AtField z d first front old root k index rest shows → Label → Value → Bool → Type 0
PublishesBy z d first front old new root k index rest shows field l v true = Published z d old new root k l v
PublishesBy z d first front old new root k index rest shows field l v false = PublishLost z d first front old new root k index rest shows field l v

-- whatever map that is in, if others respect it, and a register holds the key
abbrev pub Publishes : Sizes → ℕ → List Entry → List Entry → ℕ → Bool → Type 0
Publishes z d old new index won = (first front : List Entry) (root k l : Label) (v : Value) (rest key : ℕ) (shows : Reply) → held_by z d old key ≡ Block k → (field : AtField z d first front old root k index rest shows) → FieldBinds z front old field.v k
    → OwnBlock z d old root 10 l (Ephe (Some k ∷ []) v) → IsMap (graph_of z old) root → OthersRespect z root d old new → PublishesBy z d first front old new root k index rest shows field l v won

-- the key that another's leaf has, or the key itself
abbrev pub key_or : Label → Option Label → Label
key_or k None = k
key_or k (Some j) = j

-- the block that a reply shows, but for this one
abbrev pub other_block : Label → Reply → Option Label
other_block k (reply.Block l) = cond (same_label l k) None (Some l)
other_block k r = None

-- a walk came to the field at which a key's way ends, so many blocks below where it began: what register 9 holds of it binds the key at most, or another key that is told
pub record FieldFound (z : Sizes) (d : ℕ) (first now : List Entry) (root k : Label) (index rest depth : ℕ) (other : Option Label) : Type 0 where
  pub shows : Reply
  pub front : List Entry
  pub field : AtField z d first front now root k index rest shows
  pub deep : depth ≡ length field.p
  pub binds : FieldBinds z front now field.v (key_or k other)
  pub differs : (j : Label) → other ≡ Some j → j ≢ k
  pub alive : (j : Label) → other ≡ Some j → bound_by (graph_of z front) j field.v ≢ None

-- whatever map it is on, if others respect it
abbrev pub FindsField : Sizes → ℕ → List Entry → List Entry → ℕ → Label → ℕ → ℕ → Reply → ℕ → ℕ → ℕ → Option Label → Type 0
FindsField z d old new kr k index rest at_end index_now rest_now steps other = (first : List Entry) (root : Label) → held_by z d old kr ≡ Block k → Looking z root d first old → (x : AtField z d first old old root k index rest at_end) → OthersRespect z root d first new
    → Looking z root d first new × KeepsWalked z d old new × FieldFound z d first new root k index_now rest_now (length x.p + steps) other

-- at a place stands a block of the map
abbrev pub IsBlockAt : Sizes → List Entry → Label → List ℕ → Type 0
IsBlockAt z h root place = (b : Label) × (fields : List Value) × (at (inside (graph_of z h)) place (Block root) ≡ Some (Block b)) × (inside (graph_of z h) (Block b) ≡ Some fields)

-- room was made at a field, or another call wrote it first: either way the call goes on from the same block, with the leaf in the making. Where the field held what it was to hold, and no other domain uses the map, it holds a block
pub record RoomMade (z : Sizes) (d : ℕ) (front old new : List Entry) (root k l : Label) (v : Value) (place : List ℕ) (held : Value) : Type 0 where
  pub on : GoesOn z root d old new
  pub stays : MapStays z root front new
  pub leaf : OwnBlock z d new root 10 l (Ephe (Some k ∷ []) v)
  pub keeps : (i : ℕ) → i ≢ 11 → held_by z d new i ≡ held_by z d old i
  pub deeper : at (inside (graph_of z old)) place (Block root) ≡ Some held → OthersLeave z root d old new → IsBlockAt z new root place

-- or the allocation was refused
pub record RoomRefused (z : Sizes) (d : ℕ) (old new : List Entry) (root : Label) : Type 0 where
  pub on : GoesOn z root d old new
  pub keeps : (i : ℕ) → held_by z d new i ≡ held_by z d old i

abbrev pub MakesRoomBy : Sizes → ℕ → List Entry → List Entry → List Entry → Label → Label → Label → Value → List ℕ → Value → Bool → Type 0
MakesRoomBy z d front old new root k l v place held true = RoomMade z d front old new root k l v place held
MakesRoomBy z d front old new root k l v place held false = RoomRefused z d old new root

-- whatever map that is in, if others respect it, a register holds the key, and the way to the other key goes on by this digit
abbrev pub MakesRoom : Sizes → ℕ → List Entry → List Entry → ℕ → ℕ → Bool → Type 0
MakesRoom z d old new index digit made = (first front : List Entry) (root k j l : Label) (v : Value) (rest key : ℕ) (shows : Reply) → key < 8 → held_by z d old key ≡ Block k → (field : AtField z d first front old root k index rest shows) → FieldBinds z front old field.v j
    → ((q : List ℕ) × (way_to z.domains j ≡ field.p ++ index ∷ digit ∷ q)) → OwnBlock z d old root 10 l (Ephe (Some k ∷ []) v) → IsMap (graph_of z old) root → OthersRespect z root d old new → MakesRoomBy z d front old new root k l v (field.p ++ index ∷ []) field.v made

-- what is left of a number below its first digit and so many others
abbrev pub rest_of : ℕ → ℕ → ℕ
rest_of n zero = n / root_width
rest_of n (suc t) = rest_of n t / node_width

-- a leaf in the making stays the domain's own while a walk goes on, for whatever call and whatever map that is
abbrev pub KeepsLeaf : Sizes → ℕ → List Entry → List Entry → ℕ → Label → ℕ → ℕ → Reply → Type 0
KeepsLeaf z d old new kr k index rest at_end = (first : List Entry) (root l : Label) (v : Value) → held_by z d old kr ≡ Block k → Looking z root d first old → (x : AtField z d first old old root k index rest at_end) → OthersRespect z root d first new
    → OwnBlock z d old root 10 l (Ephe (Some k ∷ []) v) → OwnBlock z d new root 10 l (Ephe (Some k ∷ []) v)

-- a put stands at a field that it has just read, so many blocks below the root, with its leaf at hand
pub record Putting (z : Sizes) (d : ℕ) (old now : List Entry) (root k : Label) (v : Value) (index rest : ℕ) (shows : Reply) (level : ℕ) : Type 0 where
  pub on : GoesOn z root d old now
  pub first : List Entry
  pub since : IsPrefix old first
  pub looking : Looking z root d first now
  pub field : AtField z d first now now root k index rest shows
  pub deep : level ≡ length field.p
  pub keeps : (i : ℕ) → IsBeside i → held_by z d now i ≡ held_by z d old i
  pub l : Label
  pub made : IsMadeBehind z d old l
  pub leaf : OwnBlock z d now root 10 l (Ephe (Some k ∷ []) v)

-- it has come to the field at which the key's way ends
pub record Arrived (z : Sizes) (d : ℕ) (old now : List Entry) (root k : Label) (v : Value) (index rest level : ℕ) (other : Option Label) : Type 0 where
  pub on : GoesOn z root d old now
  pub first : List Entry
  pub since : IsPrefix old first
  pub looking : Looking z root d first now
  pub found : FieldFound z d first now root k index rest level other
  pub keeps : (i : ℕ) → IsBeside i → held_by z d now i ≡ held_by z d old i
  pub l : Label
  pub made : IsMadeBehind z d old l
  pub leaf : OwnBlock z d now root 10 l (Ephe (Some k ∷ []) v)
