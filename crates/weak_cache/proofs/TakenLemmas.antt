-- What taking a key out does to the slots of the others.
use Rattle.std.proofs.Common.{◌≡◌, ◌≢◌, suc, ◌+◌, ◌<◌, ◌≤◌, Bool, true, false, cond, [], ◌∷◌, ◌++◌, length, Option, None, refl, ap, sym, ◌∙◌, arith}
use Rattle.model_core.specs.declared.label.Label.{Label}
use Rattle.weak_laws.specs.Tables.Structures.{Binding}
use Rattle.weak_cache.specs.Uses.{age, cached_in, is_of, taken}
use Rattle.weak_cache.specs.Laws.{TakenIsNotFound, TakingKeepsOthers}
use Rattle.weak_cache.proofs.LawLemmas.{age_hit, age_skip, of_one}
use Rattle.weak_cache.proofs.OnceLemmas.{Slots, cached_hit, cached_skip, taken_gone}

taken_met : (k : Label) (s : Option Binding) (ss : Slots) → is_of k s ≡ true → taken k (s ∷ ss) ≡ ss ++ None ∷ []
taken_met k s ss own = ap (λ (b : Bool). cond b (ss ++ None ∷ []) (s ∷ taken k ss)) own

taken_on : (k : Label) (s : Option Binding) (ss : Slots) → is_of k s ≡ false → taken k (s ∷ ss) ≡ s ∷ taken k ss
taken_on k s ss other = ap (λ (b : Bool). cond b (ss ++ None ∷ []) (s ∷ taken k ss)) other

end_long : (ss : Slots) → length (ss ++ None ∷ []) ≡ suc (length ss)
end_long [] = refl
end_long (s ∷ ss) = ap suc (end_long ss)

pub taken_long : (k : Label) (ss : Slots) → length (taken k ss) ≡ length ss
taken_long k [] = refl
taken_long k (s ∷ ss) = by (is_of k s) (taken_long k ss)
  where
    by : (b : Bool) → length (taken k ss) ≡ length ss → length (cond b (ss ++ None ∷ []) (s ∷ taken k ss)) ≡ suc (length ss)
    by true rest = end_long ss
    by false rest = ap suc rest

-- an empty slot at the end
end_cached : (l : Label) (ss : Slots) → cached_in l (ss ++ None ∷ []) ≡ cached_in l ss
end_cached l [] = refl
end_cached l (s ∷ ss) = by (is_of l s) refl (end_cached l ss)
  where
    by : (b : Bool) → is_of l s ≡ b → cached_in l (ss ++ None ∷ []) ≡ cached_in l ss → cached_in l (s ∷ ss ++ None ∷ []) ≡ cached_in l (s ∷ ss)
    by true own rest = cached_hit l s (ss ++ None ∷ []) own ∙ sym (cached_hit l s ss own)
    by false other rest = cached_skip l s (ss ++ None ∷ []) other ∙ (rest ∙ sym (cached_skip l s ss other))

age_end : (l : Label) (ss : Slots) → (age l ss ≤ age l (ss ++ None ∷ [])) × (age l (ss ++ None ∷ []) ≤ age l ss + 1) × (age l ss < length ss → age l (ss ++ None ∷ []) ≡ age l ss)
age_end l [] = (omega arith, omega arith, (λ less. absurd (omega (arith, less))))
age_end l (s ∷ ss) = by (is_of l s) refl (age_end l ss)
  where
    by : (b : Bool) → is_of l s ≡ b → (age l ss ≤ age l (ss ++ None ∷ [])) × (age l (ss ++ None ∷ []) ≤ age l ss + 1) × (age l ss < length ss → age l (ss ++ None ∷ []) ≡ age l ss)
        → (age l (s ∷ ss) ≤ age l (s ∷ ss ++ None ∷ [])) × (age l (s ∷ ss ++ None ∷ []) ≤ age l (s ∷ ss) + 1) × (age l (s ∷ ss) < suc (length ss) → age l (s ∷ ss ++ None ∷ []) ≡ age l (s ∷ ss))
    by true own rest =
        let a = age_hit l s ss own in
        let b = age_hit l s (ss ++ None ∷ []) own in
        (omega (arith, a, b), omega (arith, a, b), (λ less. omega (arith, a, b)))
    by false other (least, most, same) =
        let a = age_skip l s ss other in
        let b = age_skip l s (ss ++ None ∷ []) other in
        (omega (arith, a, b, least), omega (arith, a, b, most), (λ less. let is = same (omega (arith, less, a)) in omega (arith, a, b, is)))

age_most : (l : Label) (ss : Slots) → age l ss ≤ length ss
age_most l [] = omega arith
age_most l (s ∷ ss) = by (is_of l s) refl (age_most l ss)
  where
    by : (b : Bool) → is_of l s ≡ b → age l ss ≤ length ss → age l (s ∷ ss) ≤ suc (length ss)
    by true own rest = let a = age_hit l s ss own in omega (arith, a)
    by false other rest = let a = age_skip l s ss other in omega (arith, a, rest)

pub not_found : TakenIsNotFound
not_found = taken_gone

pub taking_keeps : TakingKeepsOthers
taking_keeps k l [] differ = (refl, omega arith)
taking_keeps k l (s ∷ ss) differ = by (is_of k s) refl (is_of l s) refl (taking_keeps k l ss differ)
  where
    by : (a : Bool) → is_of k s ≡ a → (b : Bool) → is_of l s ≡ b → (cached_in l (taken k ss) ≡ cached_in l ss) × (age l (taken k ss) ≤ age l ss)
        → (cached_in l (taken k (s ∷ ss)) ≡ cached_in l (s ∷ ss)) × (age l (taken k (s ∷ ss)) ≤ age l (s ∷ ss))
    by true own b e rest =
        let other = of_one k l s differ own in
        let is = taken_met k s ss own in
        let here = ap (age l) is in
        let most = (age_end l ss).1 in
        let a = age_skip l s ss other in
        (ap (cached_in l) is ∙ (end_cached l ss ∙ sym (cached_skip l s ss other)), omega (arith, here, most, a))
    by false apart true own rest =
        let is = taken_on k s ss apart in
        let here = ap (age l) is ∙ age_hit l s (taken k ss) own in
        (ap (cached_in l) is ∙ (cached_hit l s (taken k ss) own ∙ sym (cached_hit l s ss own)), omega (arith, here))
    by false apart false other rest =
        let is = taken_on k s ss apart in
        let here = ap (age l) is ∙ age_skip l s (taken k ss) other in
        let a = age_skip l s ss other in
        let less = rest.1 in
        (ap (cached_in l) is ∙ (cached_skip l s (taken k ss) other ∙ (rest.0 ∙ sym (cached_skip l s ss other))), omega (arith, here, a, less))

-- of two other keys the one that stood before stands before it still
pub order_kept : (l k m : Label) (ss : Slots) → k ≢ l → m ≢ l → age m ss < age k ss → age m (taken l ss) < age k (taken l ss)
order_kept l k m [] apart differ less = absurd (omega (arith, less))
order_kept l k m (s ∷ ss) apart differ less = by (is_of l s) refl (is_of m s) refl (is_of k s) refl (λ x. order_kept l k m ss apart differ x)
  where
    by : (a : Bool) → is_of l s ≡ a → (b : Bool) → is_of m s ≡ b → (e : Bool) → is_of k s ≡ e → (age m ss < age k ss → age m (taken l ss) < age k (taken l ss)) → age m (taken l (s ∷ ss)) < age k (taken l (s ∷ ss))
    by true own b i e j rec =
        let is = taken_met l s ss own in
        let m_is = ap (age m) is in
        let k_is = ap (age k) is in
        let m_skip = age_skip m s ss (of_one l m s differ own) in
        let k_skip = age_skip k s ss (of_one l k s apart own) in
        let there = age_most k ss in
        let m_same = (age_end m ss).2 (omega (arith, less, m_skip, k_skip, there)) in
        let k_more = (age_end k ss).0 in
        omega (arith, less, m_is, k_is, m_skip, k_skip, m_same, k_more)
    by false other b i true own rec = let none = age_hit k s ss own in absurd (omega (arith, less, none))
    by false other true own false skip rec =
        let is = taken_on l s ss other in
        let m_is = ap (age m) is ∙ age_hit m s (taken l ss) own in
        let k_is = ap (age k) is ∙ age_skip k s (taken l ss) skip in
        omega (arith, m_is, k_is)
    by false other false m_skip false k_skip rec =
        let is = taken_on l s ss other in
        let m_is = ap (age m) is ∙ age_skip m s (taken l ss) m_skip in
        let k_is = ap (age k) is ∙ age_skip k s (taken l ss) k_skip in
        let a = age_skip m s ss m_skip in
        let b = age_skip k s ss k_skip in
        let r = rec (omega (arith, less, a, b)) in
        omega (arith, m_is, k_is, r)

-- one that stood behind the key that is taken comes one forward
pub comes_forward : (l k : Label) (ss : Slots) → k ≢ l → age l ss < age k ss → age k ss < length ss → age k (taken l ss) + 1 ≡ age k ss
comes_forward l k [] apart less small = absurd (omega (arith, less))
comes_forward l k (s ∷ ss) apart less small = by (is_of l s) refl (is_of k s) refl (λ x y. comes_forward l k ss apart x y)
  where
    by : (a : Bool) → is_of l s ≡ a → (b : Bool) → is_of k s ≡ b → (age l ss < age k ss → age k ss < length ss → age k (taken l ss) + 1 ≡ age k ss) → age k (taken l (s ∷ ss)) + 1 ≡ age k (s ∷ ss)
    by true own b e rec =
        let skip = age_skip k s ss (of_one l k s apart own) in
        let here = ap (age k) (taken_met l s ss own) in
        let same = (age_end k ss).2 (omega (arith, small, skip)) in
        omega (arith, skip, here, same)
    by false other true own rec = let none = age_hit k s ss own in absurd (omega (arith, less, none))
    by false other false skip rec =
        let here = ap (age k) (taken_on l s ss other) ∙ age_skip k s (taken l ss) skip in
        let a = age_skip k s ss skip in
        let b = age_skip l s ss other in
        let r = rec (omega (arith, less, a, b)) (omega (arith, small, a)) in
        omega (arith, here, a, r)
