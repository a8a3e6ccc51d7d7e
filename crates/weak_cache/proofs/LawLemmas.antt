-- What a use does to the slots of a cache.
use Rattle.std.proofs.Common.{◌≡◌, ◌≢◌, inl, inr, ℕ, zero, suc, ◌+◌, ◌<◌, ◌≤◌, Bool, true, false, cond, [], ◌∷◌, length, get_or, Option, Some, None, refl, ap, sym, ◌∙◌, subst, arith}
use Rattle.std.proofs.lemmas.List.{length-map}
use Rattle.model_core.specs.declared.label.Label.{Label}
use Rattle.model_core.specs.declared.graph.Value.{Value}
use Rattle.model_core.proofs.Commands.FrameLemmas.{label_cases}
use Rattle.model_core.proofs.Graphs.GraphLemmas.{same_label-false, same_label_refl}
use Rattle.weak_laws.specs.Tables.Structures.{Binding}
use Rattle.weak_laws.specs.Tables.Stages.{graph_of}
use Rattle.weak_laws.proofs.OfMaps.RespectLemmas.{alone_leaves, alone_respects}
use Rattle.weak_cache.specs.Uses.{SlotLeft, SlotsLeft, age, cached_in, datum_of, is_of, pushed, put_first}
use Rattle.weak_cache.specs.Caches.{Gone, slot_of}
use Rattle.weak_cache.specs.Laws.{AloneSpares, CacheIsBounded, GetKeeps, LossKeepsOthers, NoOtherIsFound, OthersGoBack, OthersStay, PutIsFound}
use Rattle.weak_cache.proofs.EndLemmas.{slots_are}
use Rattle.weak_cache.proofs.ListLemmas.{is_of_some}
use Rattle.weak_cache.proofs.OnceLemmas.{Slots, cached_hit, cached_skip}

pub age_hit : (l : Label) (t : Option Binding) (ts : Slots) → is_of l t ≡ true → age l (t ∷ ts) ≡ 0
age_hit l t ts own = ap (λ (b : Bool). cond b 0 (suc (age l ts))) own

pub age_skip : (l : Label) (t : Option Binding) (ts : Slots) → is_of l t ≡ false → age l (t ∷ ts) ≡ suc (age l ts)
age_skip l t ts other = ap (λ (b : Bool). cond b 0 (suc (age l ts))) other

pushed_met : (k : Label) (s t : Option Binding) (ts : Slots) → is_of k t ≡ true → pushed k s (t ∷ ts) ≡ s ∷ ts
pushed_met k s t ts own = ap (λ (b : Bool). s ∷ cond b ts (pushed k t ts)) own

pushed_on : (k : Label) (s t : Option Binding) (ts : Slots) → is_of k t ≡ false → pushed k s (t ∷ ts) ≡ s ∷ pushed k t ts
pushed_on k s t ts other = ap (λ (b : Bool). s ∷ cond b ts (pushed k t ts)) other

-- a slot is of one key
pub of_one : (k l : Label) (t : Option Binding) → l ≢ k → is_of k t ≡ true → is_of l t ≡ false
of_one k l t differ own =
    let s = is_of_some k t own in
    ap (is_of l) s.1 ∙ same_label-false k l (λ e. differ (sym e))

module _ (k l : Label) (differ : l ≢ k) where
  abbrev Same : Option Binding → Slots → Type 0
  Same s ss = (cached_in l (pushed k s ss) ≡ cached_in l ss) × (age l (pushed k s ss) ≡ age l ss)

  -- the key stands here: nothing behind it moves
  met : (s t : Option Binding) (ts : Slots) → is_of l s ≡ false → is_of k t ≡ true → Same s (t ∷ ts)
  met s t ts apart own =
      let other = of_one k l t differ own in
      let is = pushed_met k s t ts own in (
        ap (cached_in l) is ∙ (cached_skip l s ts apart ∙ sym (cached_skip l t ts other)),
        ap (age l) is ∙ (age_skip l s ts apart ∙ sym (age_skip l t ts other)),
      )

  -- it stands behind
  pub further : (s t : Option Binding) (ts : Slots) → is_of l s ≡ false → is_of k t ≡ false → (cached_in l (pushed k s (t ∷ ts)) ≡ cached_in l (pushed k t ts)) × (age l (pushed k s (t ∷ ts)) ≡ suc (age l (pushed k t ts)))
  further s t ts apart other =
      let is = pushed_on k s t ts other in
      (ap (cached_in l) is ∙ cached_skip l s (pushed k t ts) apart, ap (age l) is ∙ age_skip l s (pushed k t ts) apart)

  -- a slot of the other key that goes one back
  pub one_back : (t u : Option Binding) (us : Slots) → is_of l t ≡ true → (cached_in l (pushed k t (u ∷ us)) ≡ datum_of t) × (age l (pushed k t (u ∷ us)) ≡ 0)
  one_back t u us own = (cached_hit l t (cond (is_of k u) us (pushed k u us)) own, age_hit l t (cond (is_of k u) us (pushed k u us)) own)

  goes_back : (w : Value) (ss : Slots) (s : Option Binding) → is_of l s ≡ false → cached_in l ss ≡ Some w → age l ss + 1 < length ss → (cached_in l (pushed k s ss) ≡ Some w) × (age l (pushed k s ss) ≤ age l ss + 1)
  goes_back w [] s apart has small = let clash : None ≡ Some w = has in cc
  goes_back w (t ∷ ts) s apart has small = by (is_of k t) refl (is_of l t) refl (λ x y. goes_back w ts t x y)
    where
      last : (us : Slots) → ts ≡ us → is_of k t ≡ false → is_of l t ≡ true → (cached_in l (pushed k s (t ∷ ts)) ≡ Some w) × (age l (pushed k s (t ∷ ts)) ≤ age l (t ∷ ts) + 1)
      last [] is other own = let zero_age = age_hit l t ts own in let long = ap length is in absurd (omega (arith, small, zero_age, long))
      last (u ∷ us) is other own =
          let f = further s t ts apart other in
          let b = one_back t u us own in
          let here : cached_in l (pushed k t ts) ≡ datum_of t = ap (λ (xs : Slots). cached_in l (pushed k t xs)) is ∙ b.0 in
          let there : age l (pushed k t ts) ≡ 0 = ap (λ (xs : Slots). age l (pushed k t xs)) is ∙ b.1 in
          let old = f.1 in
          (f.0 ∙ (here ∙ (sym (cached_hit l t ts own) ∙ has)), omega (arith, old, there))

      by : (a : Bool) → is_of k t ≡ a → (b : Bool) → is_of l t ≡ b → (is_of l t ≡ false → cached_in l ts ≡ Some w → age l ts + 1 < length ts → (cached_in l (pushed k t ts) ≡ Some w) × (age l (pushed k t ts) ≤ age l ts + 1)) → (cached_in l (pushed k s (t ∷ ts)) ≡ Some w) × (age l (pushed k s (t ∷ ts)) ≤ age l (t ∷ ts) + 1)
      by true own b e rec = let m = met s t ts apart own in let same = m.1 in (m.0 ∙ has, omega (arith, same))
      by false other true own rec = last ts refl other own
      by false other false skip rec =
          let f = further s t ts apart other in
          let older = age_skip l t ts skip in
          let r = rec skip (sym (cached_skip l t ts skip) ∙ has) (omega (arith, small, older)) in
          let less = r.1 in
          let is = f.1 in
          (f.0 ∙ r.0, omega (arith, less, is, older))

  stays_behind : (ss : Slots) (s : Option Binding) → is_of l s ≡ false → age k ss < age l ss → Same s ss
  stays_behind [] s apart less = absurd (omega (arith, less))
  stays_behind (t ∷ ts) s apart less = by (is_of k t) refl (is_of l t) refl (λ x y. stays_behind ts t x y)
    where
      by : (a : Bool) → is_of k t ≡ a → (b : Bool) → is_of l t ≡ b → (is_of l t ≡ false → age k ts < age l ts → Same t ts) → Same s (t ∷ ts)
      by true own b e rec = met s t ts apart own
      by false other true own rec = let none = age_hit l t ts own in absurd (omega (arith, less, none))
      by false other false skip rec =
          let a = age_skip k t ts other in
          let b = age_skip l t ts skip in
          let r = rec skip (omega (arith, less, a, b)) in
          let f = further s t ts apart other in
          (f.0 ∙ (r.0 ∙ sym (cached_skip l t ts skip)), f.1 ∙ (ap suc r.1 ∙ sym b))

  keeps_value : (v : Value) (ss : Slots) (s : Option Binding) → is_of l s ≡ false → cached_in k ss ≡ Some v → cached_in l (pushed k s ss) ≡ cached_in l ss
  keeps_value v [] s apart has = let clash : None ≡ Some v = has in cc
  keeps_value v (t ∷ ts) s apart has = by (is_of k t) refl (is_of l t) refl (λ x y. keeps_value v ts t x y)
    where
      last : (us : Slots) → ts ≡ us → is_of k t ≡ false → is_of l t ≡ true → cached_in l (pushed k s (t ∷ ts)) ≡ cached_in l (t ∷ ts)
      last [] is other own = let clash : None ≡ Some v = sym (ap (cached_in k) is) ∙ (sym (cached_skip k t ts other) ∙ has) in cc
      last (u ∷ us) is other own = (further s t ts apart other).0 ∙ ((ap (λ (xs : Slots). cached_in l (pushed k t xs)) is ∙ (one_back t u us own).0) ∙ sym (cached_hit l t ts own))

      by : (a : Bool) → is_of k t ≡ a → (b : Bool) → is_of l t ≡ b → (is_of l t ≡ false → cached_in k ts ≡ Some v → cached_in l (pushed k t ts) ≡ cached_in l ts) → cached_in l (pushed k s (t ∷ ts)) ≡ cached_in l (t ∷ ts)
      by true own b e rec = (met s t ts apart own).0
      by false other true own rec = last ts refl other own
      by false other false skip rec = (further s t ts apart other).0 ∙ (rec skip (sym (cached_skip k t ts other) ∙ has) ∙ sym (cached_skip l t ts skip))

pub apart_put : (k l : Label) (v : Value) → l ≢ k → is_of l (Some (k, v)) ≡ false
apart_put k l v differ = same_label-false k l (λ e. differ (sym e))

pub put_found : PutIsFound
put_found k v [] some = absurd (omega (arith, some))
put_found k v (t ∷ ts) some = (cached_hit k (Some (k, v)) (cond (is_of k t) ts (pushed k t ts)) (same_label_refl k), age_hit k (Some (k, v)) (cond (is_of k t) ts (pushed k t ts)) (same_label_refl k))

pub others_back : OthersGoBack
others_back k l v w ss differ has small = goes_back k l differ w ss (Some (k, v)) (apart_put k l v differ) has small

pub others_stay : OthersStay
others_stay k l v ss differ less = stays_behind k l differ ss (Some (k, v)) (apart_put k l v differ) less

pub get_keeps : GetKeeps
get_keeps k l v ss has = label_cases (cached_in l (put_first k v ss) ≡ cached_in l ss) l k
    (λ same. subst (λ (m : Label). cached_in m (put_first k v ss) ≡ cached_in m ss) (sym same) (own ss has))
    (λ differ. keeps_value k l differ v ss (Some (k, v)) (apart_put k l v differ) has)
  where
    own : (xs : Slots) → cached_in k xs ≡ Some v → cached_in k (put_first k v xs) ≡ cached_in k xs
    own [] is = let clash : None ≡ Some v = is in cc
    own (t ∷ ts) is = cached_hit k (Some (k, v)) (cond (is_of k t) ts (pushed k t ts)) (same_label_refl k) ∙ sym is

pub no_other : NoOtherIsFound
no_other k v [] has = let clash : None ≡ Some v = has in cc
no_other k v (t ∷ ts) has = by (is_of k t) refl (λ x. no_other k v ts x)
  where
    by : (b : Bool) → is_of k t ≡ b → (cached_in k ts ≡ Some v → (i : ℕ) × (i < length ts) × (get_or ts i None ≡ Some (k, v))) → (i : ℕ) × (i < suc (length ts)) × (get_or (t ∷ ts) i None ≡ Some (k, v))
    by true own rec =
        let s = is_of_some k t own in
        let value : Some s.0 ≡ Some v = sym (ap datum_of s.1) ∙ (sym (cached_hit k t ts own) ∙ has) in
        let same : s.0 ≡ v = cc in
        (zero, omega arith, s.1 ∙ ap (λ (w : Value). Some (k, w)) same)
    by false other rec = let r = rec (sym (cached_skip k t ts other) ∙ has) in let less = r.1 in (suc r.0, omega (arith, less), r.2)

pub loss_left : (P : Label → Type 0) (ss ts : Slots) → SlotsLeft P ss ts → (l : Label) → (P l → ⊥) → (cached_in l ts ≡ cached_in l ss) × (age l ts ≡ age l ss)
loss_left P [] [] left l lives = (refl, refl)
loss_left P [] (t ∷ ts) left l lives = absurd left
loss_left P (s ∷ ss) [] left l lives = absurd left
loss_left P (s ∷ ss) (t ∷ ts) (one, rest) l lives = by one (loss_left P ss ts rest l lives)
  where
    by : SlotLeft P s t → (cached_in l ts ≡ cached_in l ss) × (age l ts ≡ age l ss) → (cached_in l (t ∷ ts) ≡ cached_in l (s ∷ ss)) × (age l (t ∷ ts) ≡ age l (s ∷ ss))
    by (inl same) r = ((λ i. cond (is_of l (same i)) (datum_of (same i)) (r.0 i)), (λ i. cond (is_of l (same i)) 0 (suc (r.1 i))))
    by (inr (m, w, was, gone, none)) r =
        let differ : l ≢ m = λ e. lives (subst P (sym e) gone) in
        let old : is_of l s ≡ false = ap (is_of l) was ∙ same_label-false m l (λ e. differ (sym e)) in
        let new : is_of l t ≡ false = ap (is_of l) none in
        (cached_skip l t ts new ∙ (r.0 ∙ sym (cached_skip l s ss old)), age_skip l t ts new ∙ (ap suc r.1 ∙ sym (age_skip l s ss old)))

pub loss_keeps : LossKeepsOthers
loss_keeps z k old new ss ts left l lives = loss_left (Gone z k old new) ss ts left l lives

pub cache_bounded : CacheIsBounded
cache_bounded z h c size x = ap length (slots_are z h c x.tag x.fields x.node) ∙ (length-map x.fields (slot_of (graph_of z h)) ∙ x.many)

pub alone_spares : AloneSpares
alone_spares z c old new one legal front e since until other = record {
  block = λ tag fields node. alone_leaves z c old new one legal front e since until other [] c _ refl node;
  leaves = (alone_respects z c old new one legal front e since until other).leaves;
}
