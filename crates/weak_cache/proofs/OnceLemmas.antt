-- Each key has one slot at most, and what leaves it so.
use Rattle.std.proofs.Common.{◌≡◌, ◌≢◌, inl, inr, ℕ, zero, suc, Bool, true, false, cond, List, [], ◌∷◌, ◌++◌, replicate, Option, Some, None, refl, ap, sym, ◌∙◌, subst}
use Rattle.model_core.specs.declared.label.Label.{Label}
use Rattle.model_core.specs.declared.graph.Value.{Value}
use Rattle.model_core.proofs.Commands.FrameLemmas.{label_cases}
use Rattle.model_core.proofs.Graphs.GraphLemmas.{same_label-true}
use Rattle.weak_laws.specs.Tables.Structures.{Binding}
use Rattle.weak_cache.specs.Uses.{AreOnce, SlotLeft, SlotsLeft, cached_in, datum_of, is_of, pushed, put_first, taken}
use Rattle.weak_cache.proofs.ListLemmas.{is_of_some}

abbrev pub Slots : Type 0
Slots = List (Option Binding)

pub cached_hit : (l : Label) (t : Option Binding) (ts : Slots) → is_of l t ≡ true → cached_in l (t ∷ ts) ≡ datum_of t
cached_hit l t ts own = ap (λ (b : Bool). cond b (datum_of t) (cached_in l ts)) own

pub cached_skip : (l : Label) (t : Option Binding) (ts : Slots) → is_of l t ≡ false → cached_in l (t ∷ ts) ≡ cached_in l ts
cached_skip l t ts other = ap (λ (b : Bool). cond b (datum_of t) (cached_in l ts)) other

-- a key that has no slot
none_skip : (l : Label) (t : Option Binding) (ts : Slots) → cached_in l (t ∷ ts) ≡ None → (is_of l t ≡ false) × (cached_in l ts ≡ None)
none_skip l t ts none = by (is_of l t) refl
  where
    by : (b : Bool) → is_of l t ≡ b → (is_of l t ≡ false) × (cached_in l ts ≡ None)
    by true own = let v = is_of_some l t own in let clash : Some v.0 ≡ None = sym (cached_hit l t ts own ∙ ap datum_of v.1) ∙ none in cc
    by false other = (other, sym (cached_skip l t ts other) ∙ none)

none_more : (l : Label) (t : Option Binding) (ts : Slots) → is_of l t ≡ false → cached_in l ts ≡ None → cached_in l (t ∷ ts) ≡ None
none_more l t ts other none = cached_skip l t ts other ∙ none

pub none_left : (P : Label → Type 0) (l : Label) (ss ts : Slots) → SlotsLeft P ss ts → cached_in l ss ≡ None → cached_in l ts ≡ None
none_left P l [] [] left none = refl
none_left P l [] (t ∷ ts) left none = absurd left
none_left P l (s ∷ ss) [] left none = absurd left
none_left P l (s ∷ ss) (t ∷ ts) (one, rest) none = let n = none_skip l s ss none in none_more l t ts (by one n.0) (none_left P l ss ts rest n.1)
  where
    by : SlotLeft P s t → is_of l s ≡ false → is_of l t ≡ false
    by (inl same) other = ap (is_of l) same ∙ other
    by (inr (m, v, was, gone, empty)) other = ap (is_of l) empty

pub none_pushed : (k l : Label) (s : Option Binding) (ss : Slots) → is_of l s ≡ false → cached_in l ss ≡ None → cached_in l (pushed k s ss) ≡ None
none_pushed k l s [] other none = refl
none_pushed k l s (t ∷ ts) other none = let n = none_skip l t ts none in none_more l s (cond (is_of k t) ts (pushed k t ts)) other (by (is_of k t) n.1 (none_pushed k l t ts n.0 n.1))
  where
    by : (b : Bool) → cached_in l ts ≡ None → cached_in l (pushed k t ts) ≡ None → cached_in l (cond b ts (pushed k t ts)) ≡ None
    by true stays goes = stays
    by false stays goes = goes

none_end : (l : Label) (ss : Slots) → cached_in l ss ≡ None → cached_in l (ss ++ None ∷ []) ≡ None
none_end l [] none = refl
none_end l (s ∷ ss) none = let n = none_skip l s ss none in none_more l s (ss ++ None ∷ []) n.0 (none_end l ss n.1)

pub none_taken : (k l : Label) (ss : Slots) → cached_in l ss ≡ None → cached_in l (taken k ss) ≡ None
none_taken k l [] none = refl
none_taken k l (s ∷ ss) none = let n = none_skip l s ss none in by (is_of k s) (none_end l ss n.1) (none_more l s (taken k ss) n.0 (none_taken k l ss n.1))
  where
    by : (b : Bool) → cached_in l (ss ++ None ∷ []) ≡ None → cached_in l (s ∷ taken k ss) ≡ None → cached_in l (cond b (ss ++ None ∷ []) (s ∷ taken k ss)) ≡ None
    by true here behind = here
    by false here behind = behind

-- slots that lose keys
pub once_left : (P : Label → Type 0) (ss ts : Slots) → SlotsLeft P ss ts → AreOnce ss → AreOnce ts
once_left P [] [] left once = tt
once_left P [] (t ∷ ts) left once = absurd left
once_left P (s ∷ ss) [] left once = absurd left
once_left P (s ∷ ss) (t ∷ ts) (one, rest) (own, once) = ((λ l is. none_left P l ss ts rest (own l (by l one is))), once_left P ss ts rest once)
  where
    by : (l : Label) → SlotLeft P s t → is_of l t ≡ true → is_of l s ≡ true
    by l (inl same) is = sym (ap (is_of l) same) ∙ is
    by l (inr (m, v, was, gone, empty)) is = let clash : false ≡ true = sym (ap (is_of l) empty) ∙ is in cc

-- slots behind one that comes first
gone_pushed : (k : Label) (t : Option Binding) (ts : Slots) → is_of k t ≡ false → AreOnce ts → cached_in k (pushed k t ts) ≡ None
gone_pushed k t [] other once = refl
gone_pushed k t (u ∷ us) other (own, once) = none_more k t (cond (is_of k u) us (pushed k u us)) other (by (is_of k u) refl (λ e. gone_pushed k u us e once))
  where
    by : (b : Bool) → is_of k u ≡ b → (is_of k u ≡ false → cached_in k (pushed k u us) ≡ None) → cached_in k (cond (is_of k u) us (pushed k u us)) ≡ None
    by true e rec = subst (λ (c : Bool). cached_in k (cond c us (pushed k u us)) ≡ None) (sym e) (own k e)
    by false e rec = subst (λ (c : Bool). cached_in k (cond c us (pushed k u us)) ≡ None) (sym e) (rec e)

once_pushed : (k : Label) (s : Option Binding) (ss : Slots) → ((l : Label) → is_of l s ≡ true → l ≢ k → cached_in l ss ≡ None) → AreOnce ss → AreOnce (pushed k s ss)
once_pushed k s [] new once = tt
once_pushed k s (t ∷ ts) new (own, once) = ((λ l is. apart l is (is_of k t) refl), by (is_of k t) (once_pushed k t ts (λ l is differ. own l is) once))
  where
    by : (b : Bool) → AreOnce (pushed k t ts) → AreOnce (cond b ts (pushed k t ts))
    by true rec = once
    by false rec = rec

    apart : (l : Label) → is_of l s ≡ true → (b : Bool) → is_of k t ≡ b → cached_in l (cond (is_of k t) ts (pushed k t ts)) ≡ None
    apart l is true e = subst (λ (c : Bool). cached_in l (cond c ts (pushed k t ts)) ≡ None) (sym e)
        (label_cases (cached_in l ts ≡ None) l k (λ same. own l (ap (λ (m : Label). is_of m t) same ∙ e)) (λ differ. (none_skip l t ts (new l is differ)).1))
    apart l is false e = subst (λ (c : Bool). cached_in l (cond c ts (pushed k t ts)) ≡ None) (sym e)
        (label_cases (cached_in l (pushed k t ts) ≡ None) l k
        (λ same. subst (λ (m : Label). cached_in m (pushed k t ts) ≡ None) (sym same) (gone_pushed k t ts e once))
        (λ differ. let n = none_skip l t ts (new l is differ) in none_pushed k l t ts n.0 n.1))

pub once_put : (k : Label) (v : Value) (ss : Slots) → AreOnce ss → AreOnce (put_first k v ss)
once_put k v ss once = once_pushed k (Some (k, v)) ss (λ l is differ. absurd (differ (sym (same_label-true k l is)))) once

-- slots of which one is taken out
once_end : (ss : Slots) → AreOnce ss → AreOnce (ss ++ None ∷ [])
once_end [] once = ((λ l is. refl), tt)
once_end (s ∷ ss) (own, once) = ((λ l is. none_end l ss (own l is)), once_end ss once)

pub once_taken : (k : Label) (ss : Slots) → AreOnce ss → AreOnce (taken k ss)
once_taken k [] once = tt
once_taken k (s ∷ ss) (own, once) = by (is_of k s) (once_end ss once) ((λ l is. none_taken k l ss (own l is)), once_taken k ss once)
  where
    by : (b : Bool) → AreOnce (ss ++ None ∷ []) → AreOnce (s ∷ taken k ss) → AreOnce (cond b (ss ++ None ∷ []) (s ∷ taken k ss))
    by true here behind = here
    by false here behind = behind

pub taken_gone : (k : Label) (ss : Slots) → AreOnce ss → cached_in k (taken k ss) ≡ None
taken_gone k [] once = refl
taken_gone k (s ∷ ss) (own, once) = by (is_of k s) refl (taken_gone k ss once)
  where
    by : (b : Bool) → is_of k s ≡ b → cached_in k (taken k ss) ≡ None → cached_in k (cond (is_of k s) (ss ++ None ∷ []) (s ∷ taken k ss)) ≡ None
    by true e rec = subst (λ (c : Bool). cached_in k (cond c (ss ++ None ∷ []) (s ∷ taken k ss)) ≡ None) (sym e) (none_end k ss (own k e))
    by false e rec = subst (λ (c : Bool). cached_in k (cond c (ss ++ None ∷ []) (s ∷ taken k ss)) ≡ None) (sym e) (none_more k s (taken k ss) e rec)

-- and slots that have nothing
pub once_empty : (n : ℕ) → AreOnce (replicate n None)
once_empty zero = tt
once_empty (suc n) = ((λ l is. let clash : false ≡ true = is in cc), once_empty n)
