-- What a clean leaves: of the whole map, of a block of it, and of one field.
use Rattle.std.specs.Prelude.{◌≡◌, ◌≢◌, ◌<◌, ◌≤◌, ℕ, ◌+◌, ◌-◌, ◌==◌, Bool, true, false, cond, List, [], ◌∷◌, ◌++◌, length, slice_index_or, pos, Some, None}
use Rattle.model_core.specs.declared.label.Label.{Label}
use Rattle.model_core.specs.declared.entry.Entry.{Entry}
use Rattle.model_core.specs.declared.graph.Value.{Value}
use Rattle.model_core.specs.declared.graph.Value.TheVariants.{Block, Int, Nothing}
use Rattle.model_core.specs.declared.graph.Node.TheVariants.{Ephe}
use Rattle.model_core.specs.declared.command.Command.TheVariants.{Store}
use Rattle.model_core.specs.declared.reply.Reply.{Reply}
use Rattle.model_core.specs.declared.state.Sizes.{Sizes}
use Rattle.model_core.specs.Graph.{Graph, node_at}
use Rattle.model_core.specs.History.{IsPrefix}
use Rattle.weak_laws.specs.Tables.Stages.{graph_of}
use Rattle.weak_laws.specs.Maps.Tries.{at, inside, is_leaf, node_width, root_width, width_at, IsMap, IsInPlace}
use Rattle.weak_laws.specs.Maps.Steps.{OthersLeave}
use Rattle.weak_laws.specs.Maps.Calls.{AreZero, CleanAnswers, HasKey, OwnKeep, PerformedBy}
use Rattle.weak_laws.specs.Maps.Within.{OwnWithin}
use Rattle.weak_maps.specs.Beside.{held_by}
use Rattle.weak_maps.specs.Walks.{OwnQuiet}

-- how many fields a block has below which there may be so many in a row
abbrev pub width_of : ℕ → ℕ
width_of left = cond (left == 6) root_width node_width

-- a place at another or below it
abbrev pub Below : List ℕ → List ℕ → Type 0
Below p q = (r : List ℕ) × (q ≡ p ++ r)

-- what a domain has done changed no binding and wrote no block but of a map, which is one still, each leaf that binds a key stands on the key's way, and each that has its key stood where it stands, and had it
pub record Cleans (z : Sizes) (root : Label) (d : ℕ) (old new : List Entry) : Type 0 where
  pub keeps : OwnKeep z root d old new
  pub within : OwnWithin z root d old old new
  pub grows : IsPrefix old new
  pub map : IsMap (graph_of z new) root
  pub placed : IsInPlace z.domains (graph_of z new) root
  pub stood : (p : List ℕ) (l : Label) → HasKey (graph_of z new) root p l → HasKey (graph_of z old) root p l

-- what isn't at a place or below it stands where it stood, and each block there has the fields that it had, but for one
pub record Elsewhere (g h : Graph) (root : Label) (here but : List ℕ) : Type 0 where
  pub places : (q : List ℕ) → (Below here q → ⊥) → at (inside h) q (Block root) ≡ at (inside g) q (Block root)
  pub blocks : (q : List ℕ) (u : Value) → (Below here q → ⊥) → q ≢ but → at (inside g) q (Block root) ≡ Some u → inside h u ≡ inside g u

-- the domain wrote no block: the map stands as it stood
pub record LeftAlone (z : Sizes) (root : Label) (d : ℕ) (old new : List Entry) : Type 0 where
  pub cleans : Cleans z root d old new
  pub places : (q : List ℕ) → at (inside (graph_of z new)) q (Block root) ≡ at (inside (graph_of z old)) q (Block root)
  pub blocks : (q : List ℕ) (u : Value) → at (inside (graph_of z old)) q (Block root) ≡ Some u → inside (graph_of z new) u ≡ inside (graph_of z old) u
  pub dead : (q : List ℕ) (l : Label) (datum : Value) → at (inside (graph_of z old)) q (Block root) ≡ Some (Block l) → node_at (graph_of z old) l ≡ Some (Ephe (None ∷ []) datum) → node_at (graph_of z new) l ≡ Some (Ephe (None ∷ []) datum)

-- each block at a place or below it holds something
abbrev pub IsTidyAt : Graph → Label → List ℕ → Type 0
IsTidyAt g root here = (q : List ℕ) (u : Value) (fields : List Value) → at (inside g) (here ++ q) (Block root) ≡ Some u → inside g u ≡ Some fields → (j : ℕ) × (j < node_width) × (slice_index_or fields j Nothing ≢ Int (pos 0))

-- each leaf at a place or below it stood there before, and had its key then
abbrev pub HadKeysAt : Sizes → Label → List Entry → List Entry → List ℕ → Type 0
HadKeysAt z root old new here = (q : List ℕ) (l : Label) → at (inside (graph_of z new)) (here ++ q) (Block root) ≡ Some (Block l) → is_leaf (node_at (graph_of z new) l) → HasKey (graph_of z old) root (here ++ q) l

-- a register holds a block of a map, so many blocks above the lowest, and register 15 holds 0
pub record AtBlock (z : Sizes) (d : ℕ) (now : List Entry) (root : Label) (p : List ℕ) (l : Label) (block left : ℕ) : Type 0 where
  pub map : IsMap (graph_of z now) root
  pub placed : IsInPlace z.domains (graph_of z now) root
  pub deep : length p + left ≡ 6
  pub there : at (inside (graph_of z now)) p (Block root) ≡ Some (Block l)
  pub fields : List Value
  pub plain : inside (graph_of z now) (Block l) ≡ Some fields
  pub held : held_by z d now block ≡ Block l
  pub zero : held_by z d now 15 ≡ Int (pos 0)

-- registers below one are as they were, and register 15 holds 0
abbrev pub KeepsLow : Sizes → ℕ → List Entry → List Entry → ℕ → Type 0
KeepsLow z d old new value = ((r : ℕ) → r < value → held_by z d new r ≡ held_by z d old r) × (held_by z d new 15 ≡ Int (pos 0))

-- whether a value is 0
abbrev pub IsZero : Bool → Value → Type 0
IsZero true v = v ≡ Int (pos 0)
IsZero false v = v ≢ Int (pos 0)

-- a field was cleaned, and holds 0 then or something
pub record FieldCleaned (z : Sizes) (d : ℕ) (old new : List Entry) (root : Label) (p : List ℕ) (i : ℕ) (l : Label) (value : ℕ) (empty : Bool) : Type 0 where
  pub cleans : Cleans z root d old new
  pub elsewhere : Elsewhere (graph_of z old) (graph_of z new) root (p ++ i ∷ []) p
  pub fields : List Value
  pub plain : inside (graph_of z new) (Block l) ≡ Some fields
  pub others : (was : List Value) → inside (graph_of z old) (Block l) ≡ Some was → (j : ℕ) → j ≢ i → slice_index_or fields j Nothing ≡ slice_index_or was j Nothing
  pub holds : IsZero empty (slice_index_or fields i Nothing)
  pub tidy : IsTidyAt (graph_of z new) root (p ++ i ∷ [])
  pub live : HadKeysAt z root old new (p ++ i ∷ [])
  pub low : KeepsLow z d old new value

-- so many fields of a block were cleaned, and hold 0 then, or one holds something
pub record BlockCleaned (z : Sizes) (d : ℕ) (old new : List Entry) (root : Label) (p : List ℕ) (l : Label) (value n : ℕ) (empty : Bool) : Type 0 where
  pub cleans : Cleans z root d old new
  pub elsewhere : Elsewhere (graph_of z old) (graph_of z new) root p p
  pub there : at (inside (graph_of z new)) p (Block root) ≡ Some (Block l)
  pub fields : List Value
  pub plain : inside (graph_of z new) (Block l) ≡ Some fields
  pub holds : AreZero empty n fields
  pub tidy : (j : ℕ) → j < n → IsTidyAt (graph_of z new) root (p ++ j ∷ [])
  pub live : (j : ℕ) → j < n → HadKeysAt z root old new (p ++ j ∷ [])
  pub low : KeepsLow z d old new value

-- 0 was stored into a field of the block in a register
pub record EmptiesField (z : Sizes) (d : ℕ) (old new : List Entry) (block i : ℕ) : Type 0 where
  pub done : Reply
  pub stored : PerformedBy z d old new (Store block i 15) done

-- registers 8 and more below one were emptied, by entries that change no block
pub record EmptiedHigh (z : Sizes) (d : ℕ) (old new : List Entry) (n : ℕ) : Type 0 where
  pub clean : (i : ℕ) → 8 ≤ i → i < n → held_by z d new i ≡ Nothing
  pub low : (i : ℕ) → i < 8 → held_by z d new i ≡ held_by z d old i
  pub quiet : OwnQuiet z d old new

-- a field is cleaned, of whatever block of whatever map that is, if others leave the map
abbrev pub CleansField : Sizes → ℕ → List Entry → List Entry → ℕ → ℕ → ℕ → Bool → Type 0
CleansField z d old new block left i empty = (root : Label) (p : List ℕ) (l : Label) → AtBlock z d old root p l block left → i < width_at p → OthersLeave z root d old new → FieldCleaned z d old new root p i l (14 - left) empty

-- and so many of a block's fields
abbrev pub CleansBlock : Sizes → ℕ → List Entry → List Entry → ℕ → ℕ → ℕ → Bool → Type 0
CleansBlock z d old new block left n empty = (root : Label) (p : List ℕ) (l : Label) → AtBlock z d old root p l block left → OthersLeave z root d old new → BlockCleaned z d old new root p l (14 - left) n empty

-- what `map_clean` leaves: the map is one still, no block was written but of the map, each leaf that binds a key stands on the key's way, registers 8 to 15 hold nothing, and the others what they held
pub record CleanLeaves (z : Sizes) (d : ℕ) (old new : List Entry) (root : Label) : Type 0 where
  pub map : IsMap (graph_of z new) root
  pub placed : IsInPlace z.domains (graph_of z new) root
  pub within : OwnWithin z root d old old new
  pub clean : (i : ℕ) → 8 ≤ i → i < 16 → held_by z d new i ≡ Nothing
  pub registers : (i : ℕ) → i < 8 → held_by z d new i ≡ held_by z d old i

-- what `map_clean` answers and leaves of whatever map stands in a register when it begins, each leaf on its key's way, if others leave the map as it is until it ends
abbrev pub CleansAt : Sizes → ℕ → List Entry → List Entry → ℕ → Bool → Type 0
CleansAt z d old new map empty = (root : Label) → held_by z d old map ≡ Block root → IsMap (graph_of z old) root → IsInPlace z.domains (graph_of z old) root → OthersLeave z root d old new
    → CleanAnswers z root d old new empty × CleanLeaves z d old new root
