-- Lists of labels, each once: their sums and their lengths.
use Rattle.std.proofs.Common.{◌≡◌, ⊎_elim, ℕ, ◌+◌, ◌≤◌, arith, Bool, true, false, cond, not, ◌||◌, IsTrue, List, [], ◌∷◌, ◌++◌, length, refl, ap, sym, ◌∙◌, subst}
use Rattle.model_core.specs.declared.label.Label.{Label}
use Rattle.model_core.specs.Graph.{same_label, has_label, has_no_repeats}
use Rattle.model_core.proofs.Graphs.GraphLemmas.{same_label-true, same_label_refl}
use Rattle.model_core.proofs.Reach.ReachLemmas.{Within, not_true, never_not, or_cases, or_left, or_right, and_left, and_right, and_both, has-append_cases}
use Rattle.model_core.proofs.Histories.TallyLemmas.{tally}

-- a list without one of its labels
unfoldable pub without : Label → List Label → List Label
without x [] = []
without x (y ∷ ys) = cond (same_label y x) ys (y ∷ without x ys)

module _ (x : Label) where
  pub without_was : (ys : List Label) → Within (without x ys) ys
  unfolding without
  without_was [] l h = h
  without_was (y ∷ ys) l h = go (same_label y x) (without_was ys l) h
    where
      go : (b : Bool) → (IsTrue (has_label (without x ys) l) → IsTrue (has_label ys l)) → IsTrue (has_label (cond b ys (y ∷ without x ys)) l)
          → IsTrue (same_label y l || has_label ys l)
      go true rest at = or_right (same_label y l) (has_label ys l) at
      go false rest at = ⊎_elim
          (λ here. or_left (same_label y l) (has_label ys l) here)
          (λ later. or_right (same_label y l) (has_label ys l) (rest later))
          (or_cases (same_label y l) (has_label (without x ys) l) at)

  pub without_is : (ys : List Label) (l : Label) → IsTrue (has_label ys l) → (x ≡ l → ⊥) → IsTrue (has_label (without x ys) l)
  unfolding without
  without_is [] l h differ = h
  without_is (y ∷ ys) l h differ = go (same_label y x) (λ later. without_is ys l later differ) refl
    where
      go : (b : Bool) → (IsTrue (has_label ys l) → IsTrue (has_label (without x ys) l)) → same_label y x ≡ b
          → IsTrue (has_label (cond b ys (y ∷ without x ys)) l)
      go true rest e = ⊎_elim
          (λ here. absurd (differ (sym (same_label-true y x e) ∙ same_label-true y l here)))
          (λ later. later)
          (or_cases (same_label y l) (has_label ys l) h)
      go false rest e = ⊎_elim
          (λ here. or_left (same_label y l) (has_label (without x ys) l) here)
          (λ later. or_right (same_label y l) (has_label (without x ys) l) (rest later))
          (or_cases (same_label y l) (has_label ys l) h)

  pub without_once : (ys : List Label) → IsTrue (has_no_repeats ys) → IsTrue (has_no_repeats (without x ys))
  unfolding without
  without_once [] once = refl
  without_once (y ∷ ys) once = go (same_label y x) (without_once ys (and_right (not (has_label ys y)) (has_no_repeats ys) once))
    where
      go : (b : Bool) → IsTrue (has_no_repeats (without x ys)) → IsTrue (has_no_repeats (cond b ys (y ∷ without x ys)))
      go true rest = and_right (not (has_label ys y)) (has_no_repeats ys) once
      go false rest = and_both (not (has_label (without x ys) y)) (has_no_repeats (without x ys))
          (never_not (has_label (without x ys) y) (λ h. not_true (has_label ys y) (and_left (not (has_label ys y)) (has_no_repeats ys) once) (without_was ys y h)))
          rest

  without_gone : (ys : List Label) → IsTrue (has_no_repeats ys) → IsTrue (has_label (without x ys) x) → ⊥
  unfolding without
  without_gone [] once h = let clash : false ≡ true = h in cc
  without_gone (y ∷ ys) once h = go (same_label y x) (without_gone ys (and_right (not (has_label ys y)) (has_no_repeats ys) once)) refl h
    where
      go : (b : Bool) → (IsTrue (has_label (without x ys) x) → ⊥) → same_label y x ≡ b → IsTrue (has_label (cond b ys (y ∷ without x ys)) x) → ⊥
      go true rest e at = not_true (has_label ys y) (and_left (not (has_label ys y)) (has_no_repeats ys) once)
          (subst (λ z. IsTrue (has_label ys z)) (sym (same_label-true y x e)) at)
      go false rest e at = ⊎_elim
          (λ here. let clash : true ≡ false = sym here ∙ e in cc)
          (λ later. rest later)
          (or_cases (same_label y x) (has_label (without x ys) x) at)

  module _ (f : Label → ℕ) where
    pub tally-without_one : (ys : List Label) → IsTrue (has_label ys x) → tally f ys ≡ f x + tally f (without x ys)
    unfolding without
    tally-without_one [] h = cc
    tally-without_one (y ∷ ys) h = go (same_label y x) (tally-without_one ys) refl
      where
        go : (b : Bool) → (IsTrue (has_label ys x) → tally f ys ≡ f x + tally f (without x ys)) → same_label y x ≡ b
            → f y + tally f ys ≡ f x + tally f (cond b ys (y ∷ without x ys))
        go true rest e = ap (λ z. f z + tally f ys) (same_label-true y x e)
        go false rest e = ⊎_elim
            (λ here. absurd (let clash : true ≡ false = sym here ∙ e in cc))
            (λ later. let split = rest later in omega (arith, split))
            (or_cases (same_label y x) (has_label ys x) h)

-- two lists of the same labels, each once, have the same sum
pub tally_same : (f : Label → ℕ) (xs ys : List Label) → IsTrue (has_no_repeats xs) → IsTrue (has_no_repeats ys) → Within xs ys → Within ys xs → tally f xs ≡ tally f ys
tally_same f [] [] a b to from = refl
tally_same f [] (y ∷ ys) a b to from =
    let clash : IsTrue (has_label [] y) = from y (or_left (same_label y y) (has_label ys y) (same_label_refl y)) in cc
tally_same f (x ∷ xs) ys a b to from =
    let new : IsTrue (has_label xs x) → ⊥ = not_true (has_label xs x) (and_left (not (has_label xs x)) (has_no_repeats xs) a) in
    let here : IsTrue (has_label ys x) = to x (or_left (same_label x x) (has_label xs x) (same_label_refl x)) in
    let rest : tally f xs ≡ tally f (without x ys) = tally_same f xs (without x ys)
    (and_right (not (has_label xs x)) (has_no_repeats xs) a)
    (without_once x ys b)
    (λ l h. without_is x ys l (to l (or_right (same_label x l) (has_label xs l) h)) (λ same. new (subst (λ z. IsTrue (has_label xs z)) (sym same) h)))
    (λ l h. ⊎_elim
    (λ first. absurd (without_gone x ys b (subst (λ z. IsTrue (has_label (without x ys) z)) (sym (same_label-true x l first)) h)))
    (λ later. later)
    (or_cases (same_label x l) (has_label xs l) (from l (without_was x ys l h)))) in
    let split = tally-without_one x f ys here in
    omega (arith, rest, split)

-- two lists of different labels, one after the other
pub no_repeats_append : (a b : List Label) → IsTrue (has_no_repeats a) → IsTrue (has_no_repeats b) → ((l : Label) → IsTrue (has_label a l) → IsTrue (has_label b l) → ⊥)
    → IsTrue (has_no_repeats (a ++ b))
no_repeats_append [] b x y apart = y
no_repeats_append (k ∷ a) b x y apart = and_both (not (has_label (a ++ b) k)) (has_no_repeats (a ++ b))
    (never_not (has_label (a ++ b) k) (λ h. ⊎_elim
    (λ left. not_true (has_label a k) (and_left (not (has_label a k)) (has_no_repeats a) x) left)
    (λ right. apart k (or_left (same_label k k) (has_label a k) (same_label_refl k)) right)
    (has-append_cases a b k h)))
    (no_repeats_append a b (and_right (not (has_label a k)) (has_no_repeats a) x) y (λ l h. apart l (or_right (same_label k l) (has_label a l) h)))

-- a length is such a sum
pub length-tally : {A : Type 0} (xs : List A) → length xs ≡ tally (λ _. 1) xs
length-tally [] = refl
length-tally (x ∷ xs) = let rest = length-tally xs in omega (arith, rest)

-- a list of labels within another is no longer
pub length_within : (xs ys : List Label) → IsTrue (has_no_repeats xs) → Within xs ys → length xs ≤ length ys
length_within [] ys once within = omega arith
length_within (x ∷ xs) ys once within =
    let split = tally-without_one x (λ _. 1) ys (within x (or_left (same_label x x) (has_label xs x) (same_label_refl x))) in
    let rest = length_within xs (without x ys) (and_right (not (has_label xs x)) (has_no_repeats xs) once)
    (λ l h. without_is x ys l (within l (or_right (same_label x l) (has_label xs l) h))
    (λ same. not_true (has_label xs x) (and_left (not (has_label xs x)) (has_no_repeats xs) once) (subst (λ z. IsTrue (has_label xs z)) (sym same) h))) in
    let all = length-tally ys in
    let less = length-tally (without x ys) in
    omega (arith, split, rest, all, less)
