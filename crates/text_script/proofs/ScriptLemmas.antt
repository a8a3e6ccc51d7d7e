-- One more at the end of the last of some lists.
use Rattle.std.proofs.Common.{◌≡◌, ℕ, ◌+◌, ◌<◌, zero, suc, List, [], ◌∷◌, ◌++◌, map, length, get_or, set, refl, ap, arith, sum_by, fold, length-append}
use Rattle.text_script.specs.Script.{with_last}

-- a write of what stands there changes nothing
pub set_same : {V C : Type 0} (view : V → List C) (xs : List V) (i : ℕ) (v d : V) → i < length xs → view v ≡ view (get_or xs i d) → map view (set xs i v) ≡ map view xs
set_same view [] i v d h e = absurd (omega arith)
set_same view (x ∷ xs) zero v d h e = ap (λ y. y ∷ map view xs) e
set_same view (x ∷ xs) (suc i) v d h e = ap (λ ys. view x ∷ ys) (set_same view xs i v d (omega arith) e)

-- a write of the last list with one more
pub set_last : {V C : Type 0} (view : V → List C) (xs : List V) (i : ℕ) (v d : V) (c : C) → suc i ≡ length xs → view v ≡ view (get_or xs i d) ++ c ∷ [] → map view (set xs i v) ≡ with_last (map view xs) c
set_last view [] i v d c h e = absurd (omega arith)
set_last view (x ∷ []) zero v d c h e = ap (λ y. y ∷ []) e
set_last view (x ∷ []) (suc i) v d c h e = absurd (omega arith)
set_last view (x ∷ y ∷ xs) zero v d c h e = absurd (omega arith)
set_last view (x ∷ y ∷ xs) (suc i) v d c h e = ap (λ ys. view x ∷ ys) (set_last view (y ∷ xs) i v d c (omega arith) e)

-- one more in all
total_from : {C : Type 0} (a : ℕ) (lists : List (List C)) → fold (λ n cs. n + length cs) a lists ≡ a + sum_by length lists
total_from a [] = omega arith
total_from a (cs ∷ lists) = omega (arith, total_from (a + length cs) lists, total_from (0 + length cs) lists)

pub total-cons : {C : Type 0} (cs : List C) (lists : List (List C)) → sum_by length (cs ∷ lists) ≡ length cs + sum_by length lists
total-cons cs lists = omega (arith, total_from (0 + length cs) lists)

pub total-push : {C : Type 0} (lists : List (List C)) → sum_by length (lists ++ [] ∷ []) ≡ sum_by length lists
total-push [] = refl
total-push (cs ∷ lists) = omega (arith, total-cons cs (lists ++ [] ∷ []), total-cons cs lists, total-push lists)

pub total-with_last : {C : Type 0} (lists : List (List C)) (c : C) → 0 < length lists → sum_by length (with_last lists c) ≡ sum_by length lists + 1
total-with_last [] c h = absurd (omega arith)
total-with_last (cs ∷ []) c h = omega (arith, length-append cs (c ∷ []))
total-with_last (cs ∷ next ∷ lists) c h =
    omega (arith, total-cons cs (with_last (next ∷ lists) c), total-cons cs (next ∷ lists), total-with_last (next ∷ lists) c (omega arith))

pub length-with_last : {C : Type 0} (lists : List (List C)) (c : C) → length (with_last lists c) ≡ length lists
length-with_last [] c = refl
length-with_last (cs ∷ []) c = refl
length-with_last (cs ∷ next ∷ lists) c = omega (arith, length-with_last (next ∷ lists) c)
