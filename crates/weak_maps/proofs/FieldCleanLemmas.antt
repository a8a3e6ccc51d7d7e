-- The outcomes of a field that is cleaned.
use Rattle.std.proofs.Common.{◌≡◌, ◌≢◌, ◌⊎◌, inl, inr, ℕ, ◌+◌, ◌-◌, ◌<◌, ◌≤◌, Bool, true, false, cond, List, [], ◌∷◌, ◌++◌, Some, None, refl, ap, sym, ◌∙◌, subst, arith, length-append}
use Rattle.model_core.specs.declared.label.Label.{Label}
use Rattle.model_core.specs.declared.command.Command.TheVariants.{Load, GetKey, Store}
use Rattle.model_core.specs.declared.entry.Entry.{Entry}
use Rattle.model_core.specs.declared.reply.Reply.{Reply}
use Rattle.model_core.specs.declared.reply.Reply.TheVariants as reply
use Rattle.model_core.specs.declared.graph.Value.{Value}
use Rattle.model_core.specs.declared.graph.Value.TheVariants.{Int, Block, Nothing}
use Rattle.model_core.specs.declared.state.Sizes.{Sizes}
use Rattle.model_core.specs.Commands.{shown}
use Rattle.model_core.specs.Domains.{IsWithinLimits}
use Rattle.model_core.specs.History.{IsPrefix}
use Rattle.weak_laws.specs.Tables.Stages.{graph_of}
use Rattle.weak_laws.specs.Maps.Tries.{inside, width_at}
use Rattle.weak_laws.specs.Maps.Steps.{OthersLeave}
use Rattle.weak_laws.specs.Maps.Calls.{PerformedBy}
use Rattle.weak_laws.proofs.OfMaps.FrontLemmas.{prefix_same, prefix_trans}
use Rattle.weak_maps.specs.Beside.{held_by}
use Rattle.weak_maps.specs.Cleans.{AtBlock, CleansBlock, CleansField, EmptiesField, width_of}
use Rattle.weak_maps.specs.Commands.{IsBlock}
use Rattle.weak_maps.proofs.CleanLemmas.{leaves_within}
use Rattle.weak_maps.proofs.CleanedLemmas.{Met, Read, block_begins, block_next, block_stands, dead_field, free_field, inner_block, kept_block, live_field, meets, reads, spent_block, wide_at, positive}
use Rattle.weak_maps.proofs.GetLemmas.{grows_by}

module _ (z : Sizes) (limits : IsWithinLimits z) (d : ℕ) (old n0 : List Entry) (block left i : ℕ) (few : (left ≤ 6) × (block < 14 - left)) (r0 : Reply) (p0 : PerformedBy z d old n0 (Load (14 - left) block i) r0) where
  abbrev value : ℕ
  value = 14 - left

  is_value : value + left ≡ 14
  is_value = let a = few.0 in omega (arith, a)

  module _ (root : Label) (p : List ℕ) (l : Label) (x : AtBlock z d old root p l block left) (narrow : i < width_at p) where
    abbrev ReadAt : List Entry → Value → Type 0
    ReadAt now v = Read z limits root d p l i block left value few is_value old now v

    abbrev MetAt : List Entry → Label → Reply → Type 0
    MetAt now b r = Met z limits root d p l i block left value few is_value old now b r

    read_it : OthersLeave z root d old n0 → (v : Value) × ReadAt n0 v × (held_by z d n0 value ≡ v) × (r0 ≡ shown v)
    read_it leaves = reads z limits root d p l i block left value few is_value old n0 r0 x narrow p0 leaves

    read_block : IsBlock r0 → OthersLeave z root d old n0 → (b : Label) × ReadAt n0 (Block b) × (held_by z d n0 value ≡ Block b)
    read_block is leaves = let y = read_it leaves in go y.0 y.1 y.2 (subst IsBlock y.3 is)
      where
        go : (v : Value) → ReadAt n0 v → held_by z d n0 value ≡ v → IsBlock (shown v) → (b : Label) × ReadAt n0 (Block b) × (held_by z d n0 value ≡ Block b)
        go (Int a) y held none = absurd none
        go (Block b) y held some = (b, y, held)
        go Nothing y held none = absurd none

    met_it : (n1 : List Entry) (r1 : Reply) → IsBlock r0 → PerformedBy z d n0 n1 (GetKey value value 0) r1 → OthersLeave z root d old n1 → (b : Label) × ReadAt n1 (Block b) × MetAt n1 b r1
    met_it n1 r1 is p1 leaves =
        let g0 = grows_by z d old n0 (Load value block i) r0 p0 in
        let g1 = grows_by z d n0 n1 (GetKey value value 0) r1 p1 in
        let y = read_block is (leaves_within z root d old n1 old n0 (prefix_same old) g1 leaves) in
        let m = meets z limits root d p l i block left value few is_value old n0 n1 y.0 r1 y.1 y.2 p1 (leaves_within z root d old n1 n0 n1 g0 (prefix_same n1) leaves) in
        (y.0, m.0, m.1)

    inner_it : (now : List Entry) (b : Label) (r : Reply) → r ≡ reply.BadType → MetAt now b r → (fields : List Value) × (inside (graph_of z now) (Block b) ≡ Some fields) × (held_by z d now value ≡ Block b)
    inner_it now b r kind (inl (None, datum, node, is)) = let clash : reply.Empty ≡ reply.BadType = sym is ∙ kind in cc
    inner_it now b r kind (inl (Some k, datum, node, is)) = let clash : reply.Block k ≡ reply.BadType = sym is ∙ kind in cc
    inner_it now b r kind (inr (fields, plain, held, is)) = (fields, plain, held)

  pub field_free : (IsBlock r0 → ⊥) → CleansField z d old n0 block left i true
  field_free none root p l x narrow leaves =
      let y = read_it root p l x narrow leaves in
      free_field z limits root d p l i block left value few is_value old n0 y.0 y.1 (λ is. none (subst IsBlock (sym y.3) is))

  module _ (n1 : List Entry) (r1 : Reply) (is : IsBlock r0) (p1 : PerformedBy z d n0 n1 (GetKey value value 0) r1) where
    pub field_live : (r1 ≡ reply.BadType → ⊥) → (r1 ≡ reply.Empty → ⊥) → CleansField z d old n1 block left i false
    field_live other some root p l x narrow leaves =
        let y = met_it root p l x narrow n1 r1 is p1 leaves in
        live_field z limits root d p l i block left value few is_value old n1 y.0 r1 y.1 y.2 other some

    -- below the lowest block there is none
    pub field_low : left ≡ 0 → r1 ≡ reply.BadType → CleansField z d old n1 block left i false
    field_low none kind root p l x narrow leaves =
        let y = met_it root p l x narrow n1 r1 is p1 leaves in
        let inner = inner_it root p l x narrow n1 y.0 r1 kind y.2 in
        let low = y.1.alone.cleans.map.low (p ++ i ∷ []) (Block y.0) inner.0 y.1.at_it inner.1 in
        let long = length-append p (i ∷ []) in
        let deep = x.deep in
        absurd (omega (arith, low, long, deep, none))

    -- a leaf without its key
    pub field_dead : (new : List Entry) → r1 ≡ reply.Empty → EmptiesField z d n1 new block i → CleansField z d old new block left i true
    field_dead new empty s root p l x narrow leaves =
        let g = grows_by z d n1 new (Store block i 15) s.done s.stored in
        let g0 = grows_by z d old n0 (Load value block i) r0 p0 in
        let g1 = grows_by z d n0 n1 (GetKey value value 0) r1 p1 in
        let y = met_it root p l x narrow n1 r1 is p1 (leaves_within z root d old new old n1 (prefix_same old) g leaves) in
        dead_field z limits root d p l i block left value few is_value old n1 new y.0 r1 s.done narrow y.1 y.2 empty s.stored (leaves_within z root d old new n1 new (prefix_trans old n0 n1 g0 g1) (prefix_same new) leaves)

    -- an inner block
    module _ (some : left ≢ 0) (kind : r1 ≡ reply.BadType) (n2 : List Entry) (grows : IsPrefix n1 n2) where
      abbrev deeper : ℕ
      deeper = left - 1

      one_less : deeper + 1 ≡ left
      one_less = positive left some

      g0 : IsPrefix old n1
      g0 = prefix_trans old n0 n1 (grows_by z d old n0 (Load value block i) r0 p0) (grows_by z d n0 n1 (GetKey value value 0) r1 p1)

      pub field_kept : CleansBlock z d n1 n2 value deeper (width_of deeper) false → CleansField z d old n2 block left i false
      field_kept cleans root p l x narrow leaves =
          let y = met_it root p l x narrow n1 r1 is p1 (leaves_within z root d old n2 old n1 (prefix_same old) grows leaves) in
          let inner = inner_it root p l x narrow n1 y.0 r1 kind y.2 in
          let long = length-append p (i ∷ []) in
          let deep = x.deep in
          let top = few.0 in
          let small : deeper < 6 = omega (arith, one_less, top) in
          let b = inner_block z limits root d p l i block left value few is_value old n1 n2 y.0 y.1 deeper small inner.0 inner.1 inner.2 (omega (arith, long, deep, one_less)) in
          let w = cleans root (p ++ i ∷ []) y.0 b (leaves_within z root d old n2 n1 n2 g0 (prefix_same n2) leaves) in
          kept_block z limits root d p l i block left value few is_value old n1 n2 y.0 y.1 deeper small false w (omega (arith, one_less, top)) refl

      pub field_spent : CleansBlock z d n1 n2 value deeper (width_of deeper) true → (new : List Entry) → EmptiesField z d n2 new block i → CleansField z d old new block left i true
      field_spent cleans new s root p l x narrow leaves =
          let g3 = grows_by z d n2 new (Store block i 15) s.done s.stored in
          let early = leaves_within z root d old new old n2 (prefix_same old) g3 leaves in
          let y = met_it root p l x narrow n1 r1 is p1 (leaves_within z root d old n2 old n1 (prefix_same old) grows early) in
          let inner = inner_it root p l x narrow n1 y.0 r1 kind y.2 in
          let long = length-append p (i ∷ []) in
          let deep = x.deep in
          let top = few.0 in
          let small : deeper < 6 = omega (arith, one_less, top) in
          let b = inner_block z limits root d p l i block left value few is_value old n1 n2 y.0 y.1 deeper small inner.0 inner.1 inner.2 (omega (arith, long, deep, one_less)) in
          let w = cleans root (p ++ i ∷ []) y.0 b (leaves_within z root d old n2 n1 n2 g0 (prefix_same n2) early) in
          spent_block z limits root d p l i block left value few is_value old n1 n2 y.0 y.1 deeper small true w (omega (arith, one_less, top)) refl narrow new s.done s.stored
          (leaves_within z root d old new n2 new (prefix_trans old n1 n2 g0 grows) (prefix_same new) leaves)

-- the fields of a block, one after the other
pub block_none : (z : Sizes) (d : ℕ) (old : List Entry) (block left : ℕ) → CleansBlock z d old old block left 0 true
block_none z d old block left root p l x leaves = block_begins z root d old p l (14 - left) block left x

pub block_more : (z : Sizes) (d : ℕ) (old now new : List Entry) (block left n : ℕ) (e zero_it : Bool) → (left ≤ 6) × (block < 14 - left) → n < width_of left → IsPrefix old now → IsPrefix now new → CleansBlock z d old now block left n e → CleansField z d now new block left n zero_it
    → CleansBlock z d old new block left (n + 1) (cond zero_it e false)
block_more z d old now new block left n e zero_it few narrow g0 g1 so_far step root p l x leaves =
    let y = so_far root p l x (leaves_within z root d old new old now (prefix_same old) g1 leaves) in
    let here = block_stands z root d old p l (14 - left) block left n now e few.1 x y in
    let f = step root p l here (subst (λ (m : ℕ). n < m) (sym (wide_at p left x.deep)) narrow) (leaves_within z root d old new now new g0 (prefix_same new) leaves) in
    block_next z root d old p l (14 - left) now new n e zero_it y f

-- what was promised of a machine before its numbers were seen to be the same
pub cleans_field_at : (z now : Sizes) (d e : ℕ) (old new : List Entry) (block left i : ℕ) (empty : Bool) → now ≡ z → e ≡ d → CleansField now e old new block left i empty → CleansField z d old new block left i empty
cleans_field_at z now d e old new block left i empty sizes domain x = subst (λ (w : Sizes × ℕ). CleansField w.0 w.1 old new block left i empty) (λ j. (sizes j, domain j)) x

pub cleans_block_at : (z now : Sizes) (d e : ℕ) (old new : List Entry) (block left n : ℕ) (a b : Bool) → now ≡ z → e ≡ d → b ≡ a → CleansBlock now e old new block left n b → CleansBlock z d old new block left n a
cleans_block_at z now d e old new block left n a b sizes domain is x = subst (λ (w : Sizes × ℕ × Bool). CleansBlock w.0 w.1 old new block left n w.2) (λ j. (sizes j, domain j, is j)) x

pub empties_at : (z now : Sizes) (d e : ℕ) (old new : List Entry) (block i : ℕ) → now ≡ z → e ≡ d → EmptiesField now e old new block i → EmptiesField z d old new block i
empties_at z now d e old new block i sizes domain x = subst (λ (w : Sizes × ℕ). EmptiesField w.0 w.1 old new block i) (λ j. (sizes j, domain j)) x

-- whether nothing was met so far
pub joined : (cleaned before after : Bool) → ((cleaned ≡ false) × (after ≡ false)) ⊎ ((cleaned ≡ true) × (after ≡ before)) → after ≡ cond cleaned before false
joined cleaned before after (inl (is, now)) = now ∙ sym (ap (λ (b : Bool). cond b before false) is)
joined cleaned before after (inr (is, now)) = now ∙ sym (ap (λ (b : Bool). cond b before false) is)
