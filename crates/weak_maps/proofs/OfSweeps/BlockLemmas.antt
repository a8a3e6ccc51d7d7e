-- The fields of a block are swept one after the other, and a whole map.
use Rattle.std.proofs.Common.{◌≡◌, ◌≢◌, inl, ⊎_elim, ℕ, ◌+◌, ◌-◌, ◌<◌, ◌≤◌, Bool, true, false, List, [], ◌∷◌, ◌++◌, length, get_or, Some, None, refl, ap, sym, ◌∙◌, subst, arith, append_assoc, append-nil, length-append}
use Rattle.model_core.specs.declared.label.Label.{Label}
use Rattle.model_core.specs.declared.entry.Entry.{Entry}
use Rattle.model_core.specs.declared.graph.Value.{Value}
use Rattle.model_core.specs.declared.graph.Value.TheVariants.{Block, Nothing}
use Rattle.model_core.specs.declared.state.Sizes.{Sizes}
use Rattle.model_core.specs.Domains.{IsWithinLimits}
use Rattle.model_core.specs.History.{IsPrefix}
use Rattle.weak_laws.specs.Tables.Stages.{graph_of}
use Rattle.weak_laws.specs.Maps.Tries.{at, inside, is_leaf, root_width}
use Rattle.weak_laws.specs.Maps.Steps.{OthersRespect}
use Rattle.weak_laws.specs.Maps.Within.{StandsIn}
use Rattle.weak_laws.proofs.OfMaps.FrontLemmas.{prefix_same, prefix_trans}
use Rattle.weak_laws.proofs.OfMaps.WalkLemmas.{same_number}
use Rattle.weak_maps.specs.Cleans.{EmptiedHigh, width_of}
use Rattle.weak_maps.proofs.CleanedLemmas.{beyond, less_or, wide_at, positive}
use Rattle.weak_maps.proofs.DescendLemmas.{at_append, at_one}
use Rattle.weak_maps.proofs.PlaceLemmas.{only_there, place_after}
use Rattle.weak_maps.specs.Sweeps.Dead.{OthersBringNoDead, StandsDead, StoodDead}
use Rattle.weak_maps.specs.Sweeps.Sweeps.{AtBlock, BlockSwept, FieldSwept, NoDeadAt, Settled, SweepReturns, SweepsBlock, SweepsField}
use Rattle.weak_maps.proofs.OfSweeps.SettleLemmas.{block_later}
use Rattle.weak_maps.proofs.OfSweeps.SpanLemmas.{Span, brings_within, clear_none, clear_twice, dead_end, no_dead_earlier, span_all, span_brings, span_dead, span_down, span_looks, span_map, span_others_bring, span_own_within, span_pinned, span_twice}

-- others respect a part of a stretch
respects_part : (z : Sizes) (root : Label) (d : ℕ) (old new a b : List Entry) → IsPrefix old a → IsPrefix b new → OthersRespect z root d old new → OthersRespect z root d a b
respects_part z root d old new a b first last x f e since until other = x f e (prefix_trans old a f first since) (prefix_trans (f ++ e ∷ []) b new until last) other

module _ (z : Sizes) (d : ℕ) where
  -- what was swept below a field of a block stays so
  no_dead_later : (root : Label) (old now new : List Entry) (p : List ℕ) (j : ℕ) (u : Value) (fields : List Value) → Span z root d old now → Span z root d now new → at (inside (graph_of z now)) p (Block root) ≡ Some u → inside (graph_of z now) u ≡ Some fields
      → NoDeadAt z root d old now (p ++ j ∷ []) → NoDeadAt z root d old new (p ++ j ∷ [])
  no_dead_later root old now new p j u fields first last there plain gone brings m s q at_new =
      let y = span_pinned z root d now new last (brings_within z root d old new now new first.grows (prefix_same new) brings) m (span_dead z root d old now first m s) p u fields there plain j q
      (ap (λ (w : List ℕ). at (inside (graph_of z new)) w (Block root)) (sym (append_assoc p (j ∷ []) q)) ∙ at_new) in
      gone (brings_within z root d old new old now (prefix_same old) last.grows brings) m s y.0 (ap (λ (w : List ℕ). at (inside (graph_of z now)) w (Block root)) (append_assoc p (j ∷ []) y.0) ∙ y.3)

  -- no field so far
  pub block_none : (old : List Entry) (block left : ℕ) → SweepsBlock z d old old block left 0
  block_none old block left root p l x respects = record { clear = clear_none z root d old; low = λ r small. refl; gone = λ j small. absurd (omega (arith, small)) }

  module _ (root : Label) (p : List ℕ) (l : Label) (old now : List Entry) (block left n : ℕ) (few : block < 14 - left) (x : AtBlock z d old root p l block left) (y : BlockSwept z d old now root p (14 - left) n) (grows : IsPrefix old now)
      (respects : OthersRespect z root d old now) where
    over : Span z root d old now
    over = record { grows = grows; clear = y.clear; others = respects; map = x.map }

    here : AtBlock z d now root p l block left
    here = block_later z root d p l block left (14 - left) old now few x over y.low

    -- one field more
    more : (new : List Entry) → IsPrefix now new → OthersRespect z root d now new → FieldSwept z d now new root (p ++ n ∷ []) (14 - left) → BlockSwept z d old new root p (14 - left) (n + 1)
    more new grows2 later f =
        let last : Span z root d now new = record { grows = grows2; clear = f.clear; others = later; map = span_map z root d old now over } in record {
          clear = clear_twice z root d old now new grows2 y.clear f.clear;
          low = λ r small. f.low r small ∙ y.low r small;
          gone = λ j small. ⊎_elim
              (λ same. subst (λ (k : ℕ). NoDeadAt z root d old new (p ++ k ∷ [])) (sym same) (no_dead_earlier z root d old now new (p ++ n ∷ []) over grows2 f.gone))
              (λ other. no_dead_later root old now new p j (Block l) here.fields over last here.there here.plain (y.gone j (⊎_elim (λ less. less) (λ far. absurd (other (omega (arith, small, far)))) (less_or j n))))
              (same_number j n);
        }

    -- where that were all, nothing dead is left of the block and below
    pub whole : n ≡ width_of left → NoDeadAt z root d old now p
    whole all brings m s [] there =
        let same : Some (Block l) ≡ Some (Block m) = sym here.there ∙ (ap (λ (w : List ℕ). at (inside (graph_of z now)) w (Block root)) (sym (append-nil p)) ∙ there) in
        let is : l ≡ m = cc in
        let clash : Some here.fields ≡ None = sym here.plain ∙ (ap (λ (k : Label). inside (graph_of z now) (Block k)) is ∙ dead_end (graph_of z now) m (span_dead z root d old now over m s).dead) in cc
    whole all brings m s (j ∷ q) there = ⊎_elim
        (λ small. y.gone j (subst (λ (k : ℕ). j < k) (sym all) small) brings m s q (ap (λ (w : List ℕ). at (inside (graph_of z now)) w (Block root)) (append_assoc p (j ∷ []) q) ∙ there))
        (λ far.
        let long : length here.fields ≡ width_of left = here.map.wide p (Block l) here.fields here.there here.plain ∙ wide_at p left x.deep in
        let none : get_or here.fields j Nothing ≡ Nothing = beyond here.fields j (omega (arith, long, far)) in
        let at_j : at (inside (graph_of z now)) (p ++ j ∷ []) (Block root) ≡ Some Nothing = at_one (inside (graph_of z now)) p j (Block root) (Block l) here.fields here.there here.plain ∙ ap Some none in
        let only = only_there (graph_of z now) q Nothing m refl (sym (at_append (inside (graph_of z now)) (p ++ j ∷ []) q (Block root) Nothing at_j)
        ∙ (ap (λ (w : List ℕ). at (inside (graph_of z now)) w (Block root)) (append_assoc p (j ∷ []) q) ∙ there)) in
        let clash : Nothing ≡ Block m = only.1 in cc)
        (less_or j (width_of left))

  pub block_more : (old now new : List Entry) (block left n : ℕ) → (left ≤ 6) × (block < 14 - left) → n < width_of left → IsPrefix old now → IsPrefix now new → SweepsBlock z d old now block left n → SweepsField z d now new block left n → SweepsBlock z d old new block left (n + 1)
  block_more old now new block left n few narrow g0 g1 so_far step root p l x respects =
      let early = respects_part z root d old new old now (prefix_same old) g1 respects in
      let later = respects_part z root d old new now new g0 (prefix_same new) respects in
      let y = so_far root p l x early in
      let at_now = here root p l old now block left n few.1 x y g0 early in
      more root p l old now block left n few.1 x y g0 early new g1 later (step root p l at_now (subst (λ (k : ℕ). n < k) (sym (wide_at p left x.deep)) narrow) later)

  -- a field below which nothing is left to be swept
  pub field_done : (old new : List Entry) (block left i : ℕ) → Settled z d old new block left i false → SweepsField z d old new block left i
  field_done old new block left i settled root p l x narrow respects = let f = settled root p l x narrow respects in record { clear = f.clear; low = f.low; gone = f.leaves }

  -- below the lowest block there is none
  pub field_low : (old new : List Entry) (block left i : ℕ) → left ≡ 0 → IsPrefix old new → Settled z d old new block left i true → SweepsField z d old new block left i
  field_low old new block left i none grows settled root p l x narrow respects =
      let f = settled root p l x narrow respects in
      let over : Span z root d old new = record { grows = grows; clear = f.clear; others = respects; map = x.map } in
      let low = (span_map z root d old new over).low (p ++ i ∷ []) (Block f.leaves.l) f.leaves.fields f.leaves.there f.leaves.plain in
      let long = length-append p (i ∷ []) in
      let deep = x.deep in
      absurd (omega (arith, low, long, deep, none))

  -- an inner block is swept
  pub field_inner : (old now new : List Entry) (block left i : ℕ) → (left ≤ 6) × (block < 14 - left) → left ≢ 0 → IsPrefix old now → IsPrefix now new → Settled z d old now block left i true → SweepsBlock z d now new (14 - left) (left - 1) (width_of (left - 1)) → SweepsField z d old new block left i
  field_inner old now new block left i few some g0 g1 settled swept root p l x narrow respects =
      let early = respects_part z root d old new old now (prefix_same old) g1 respects in
      let later = respects_part z root d old new now new g0 (prefix_same new) respects in
      let f = settled root p l x narrow early in
      let over : Span z root d old now = record { grows = g0; clear = f.clear; others = early; map = x.map } in
      let top = few.0 in
      let one_less = positive left some in
      let long = length-append p (i ∷ []) in
      let deep = x.deep in
      let inner : AtBlock z d now root (p ++ i ∷ []) f.leaves.l (14 - left) (left - 1) = record { map = span_map z root d old now over; deep = omega (arith, long, deep, one_less); there = f.leaves.there; fields = f.leaves.fields; plain = f.leaves.plain; held = f.leaves.held } in
      let b = swept root (p ++ i ∷ []) f.leaves.l inner later in
      let few_below : 14 - left < 14 - (left - 1) = omega (arith, one_less, top) in record {
        clear = clear_twice z root d old now new g1 f.clear b.clear;
        low = λ r small. b.low r (omega (arith, small, few_below)) ∙ f.low r small;
        gone = no_dead_earlier z root d old now new (p ++ i ∷ []) over g1 (whole root (p ++ i ∷ []) f.leaves.l now new (14 - left) (left - 1) (width_of (left - 1)) few_below inner b g1 later refl);
      }

-- what was promised of a machine before its numbers were seen to be the same
pub settled_at : (z now : Sizes) (d e : ℕ) (old new : List Entry) (block left i : ℕ) (inner result : Bool) → now ≡ z → e ≡ d → result ≡ inner → Settled now e old new block left i result → Settled z d old new block left i inner
settled_at z now d e old new block left i inner result sizes domain is x = subst (λ (w : Sizes × ℕ × Bool). Settled w.0 w.1 old new block left i w.2) (λ j. (sizes j, domain j, is j)) x

pub field_at : (z now : Sizes) (d e : ℕ) (old new : List Entry) (block left i : ℕ) → now ≡ z → e ≡ d → SweepsField now e old new block left i → SweepsField z d old new block left i
field_at z now d e old new block left i sizes domain x = subst (λ (w : Sizes × ℕ). SweepsField w.0 w.1 old new block left i) (λ j. (sizes j, domain j)) x

pub block_at : (z now : Sizes) (d e : ℕ) (old new : List Entry) (block left n : ℕ) → now ≡ z → e ≡ d → SweepsBlock now e old new block left n → SweepsBlock z d old new block left n
block_at z now d e old new block left n sizes domain x = subst (λ (w : Sizes × ℕ). SweepsBlock w.0 w.1 old new block left n) (λ j. (sizes j, domain j)) x

module _ (z : Sizes) (limits : IsWithinLimits z) (d : ℕ) (old : List Entry) where
  -- the whole map
  pub map_swept : (n1 new : List Entry) (map : ℕ) → map < 8 → SweepsBlock z d old n1 map 6 root_width → EmptiedHigh z d n1 new 16 → IsPrefix old n1 → IsPrefix n1 new → SweepReturns z d old new map
  map_swept n1 new map small swept emptied g0 g1 root held is_map respects = (
    record { looks = span_looks z root d old new over; clear = over.clear; own = span_brings z root d old new over; gone = gone },
    record {
      map = span_map z root d old new over;
      placed = λ placed. place_after z root old new over.grows (span_all z root d old new over) is_map placed;
      within = span_own_within z root d old new over old;
      clean = emptied.clean;
      registers = λ r few. emptied.low r few ∙ y.low r few;
    },
  )
    where
      early : OthersRespect z root d old n1
      early = respects_part z root d old new old n1 (prefix_same old) g1 respects

      start : AtBlock z d old root [] root map 6
      start = record { map = is_map; deep = refl; there = refl; fields = is_map.own.0; plain = is_map.own.1; held = held }

      y : BlockSwept z d old n1 root [] 8 root_width
      y = swept root [] root start early

      first : Span z root d old n1
      first = record { grows = g0; clear = y.clear; others = early; map = is_map }

      last : Span z root d n1 new
      last = record { grows = g1; clear = λ f e since until own. inl (emptied.quiet f e since until own); others = respects_part z root d old new n1 new g0 (prefix_same new) respects; map = span_map z root d old n1 first }

      over : Span z root d old new
      over = span_twice z root d old n1 new first last

      stood : (l : Label) → StandsDead (graph_of z old) root l → StoodDead z root old l
      stood l s = record { former = old; before = prefix_same old; p = s.p; there = s.there; leaf = subst is_leaf (sym s.dead.1) tt; dead = s.dead }

      nothing_at : NoDeadAt z root d old n1 []
      nothing_at = whole z d root [] root old n1 map 6 root_width (omega (arith, small)) start y g0 early refl

      brings : OthersBringNoDead z root d old new
      brings = span_others_bring z root d old new over

      gone : (l : Label) → StandsDead (graph_of z old) root l → StandsIn (graph_of z new) root l → ⊥
      gone l s (p, there) =
          let y = span_down z root d n1 new last (brings_within z root d old new n1 new g0 (prefix_same new) brings) l (span_dead z root d old n1 first l (stood l s)) p there in
          nothing_at (brings_within z root d old new old n1 (prefix_same old) g1 brings) l (stood l s) y.0 y.3
