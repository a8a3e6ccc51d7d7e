-- What a count has counted: of the whole map, of so many fields of a block of it, and of one field.
use Rattle.std.specs.Prelude.{◌≡◌, ◌<◌, ◌≤◌, ℕ, ◌+◌, ◌-◌, List, length, take, flat_map, slice_index_or, Some}
use Rattle.model_core.specs.declared.label.Label.{Label}
use Rattle.model_core.specs.declared.entry.Entry.{Entry}
use Rattle.model_core.specs.declared.graph.Value.{Value}
use Rattle.model_core.specs.declared.graph.Value.TheVariants.{Block, Nothing}
use Rattle.model_core.specs.declared.state.Sizes.{Sizes}
use Rattle.weak_laws.specs.Tables.Stages.{graph_of, held_in}
use Rattle.weak_laws.specs.Maps.Tries.{at, inside, width_at}
use Rattle.weak_maps.specs.Walks.{OwnQuiet}
use Rattle.weak_laws.specs.Lists.Lists.{bindings_below}
use Rattle.weak_maps.specs.Lists.Stretches.{IsListed}

-- the most that a count comes to
abbrev pub most_counted : ℕ
most_counted = 4294967295

-- how many bindings there are from a field of a block on, below which there may be so many blocks in a row
abbrev pub many_from : Sizes → List Entry → ℕ → List Value → ℕ → ℕ
many_from z h left fields i = length (bindings_below (graph_of z h) left (slice_index_or fields i Nothing))

-- and from so many of its fields on
abbrev pub many_in : Sizes → List Entry → ℕ → List Value → ℕ → ℕ
many_in z h left fields n = length (flat_map (bindings_below (graph_of z h) left) (take n fields))

-- a register holds a block of a map, so many blocks above the lowest
pub record AtBlock (z : Sizes) (h : List Entry) (root : Label) (p : List ℕ) (l : Label) (block left : ℕ) : Type 0 where
  pub listed : IsListed z h root
  pub deep : length p + left ≡ 6
  pub there : at (inside (graph_of z h)) p (Block root) ≡ Some (Block l)
  pub fields : List Value
  pub plain : inside (graph_of z h) (Block l) ≡ Some fields
  pub held : held_in z h block ≡ Block l

-- a domain has written no block, nor a register below one
pub record LooksOnly (z : Sizes) (old new : List Entry) (value : ℕ) : Type 0 where
  pub quiet : OwnQuiet z 0 old new
  pub low : (r : ℕ) → r < value → held_in z new r ≡ held_in z old r

-- a number lies between that of bindings before and that afterwards, unless it is the most
pub record IsBetween (count before after : ℕ) : Type 0 where
  pub many : count ≤ before
  pub few : count < most_counted → after ≤ count

-- a field was counted, of whatever block of whatever map that is
pub record FieldCounted (z : Sizes) (old new : List Entry) (fields : List Value) (left i count : ℕ) : Type 0 where
  pub looks : LooksOnly z old new (14 - left)
  pub number : IsBetween count (many_from z old left fields i) (many_from z new left fields i)

abbrev pub CountsField : Sizes → List Entry → List Entry → ℕ → ℕ → ℕ → ℕ → Type 0
CountsField z old new block left i count = (root : Label) (p : List ℕ) (l : Label) → (x : AtBlock z old root p l block left) → i < width_at p → FieldCounted z old new x.fields left i count

-- and so many of a block's fields
pub record BlockCounted (z : Sizes) (old new : List Entry) (fields : List Value) (left n count : ℕ) : Type 0 where
  pub looks : LooksOnly z old new (14 - left)
  pub number : IsBetween count (many_in z old left fields n) (many_in z new left fields n)

abbrev pub CountsBlock : Sizes → List Entry → List Entry → ℕ → ℕ → ℕ → ℕ → Type 0
CountsBlock z old new block left n count = (root : Label) (p : List ℕ) (l : Label) → (x : AtBlock z old root p l block left) → BlockCounted z old new x.fields left n count
