-- Lemmas on lists.
use Rattle.std.proofs.Common.{◌≡◌, ◌≢◌, ◌⊎◌, inl, inr, ⊎_elim, eqb, eqb-true, eq-eqb, true, false, sym, get_or-set_same, get_or-set_other, ℕ, ◌+◌, ◌<◌, Bool, IsTrue, subst, slice_get, replicate, List, [], ◌∷◌, ◌++◌, length, get_or, set, take, map, flat_map, filter_map, option_to_list, Option, Some, None, zero, suc, refl, ap, ◌∙◌}
use Rattle.std.specs.List.{cons_option, list_all}
use Rattle.std.proofs.lemmas.List.{take_more}
use Rattle.std.proofs.lemmas.List.Elements.{filter_map-append}
use Rattle.model_core.proofs.Graphs.GraphLemmas.{and_parts}

-- to write what stands at a place changes nothing
pub set_same : {A : Type 0} (xs : List A) (i : ℕ) (x : A) → x ≡ get_or xs i x → set xs i x ≡ xs
set_same [] i x e = refl
set_same (y ∷ xs) zero x e = ap (λ z. z ∷ xs) e
set_same (y ∷ xs) (suc i) x e = ap (λ t. y ∷ t) (set_same xs i x e)

-- one more element of a filtered map
cons_none : {B : Type 0} (o : Option B) → cons_option o [] ≡ option_to_list o
cons_none None = refl
cons_none (Some y) = refl

pub filter_map_more : {A B : Type 0} (f : A → Option B) (xs : List A) (i : ℕ) (d : A) → i < length xs
    → filter_map f (take (i + 1) xs) ≡ filter_map f (take i xs) ++ option_to_list (f (get_or xs i d))
filter_map_more f xs i d lt =
    ap (filter_map f) (take_more xs i d lt) ∙ filter_map-append f (take i xs) (get_or xs i d ∷ [])
    ∙ ap (λ t. filter_map f (take i xs) ++ t) (cons_none (f (get_or xs i d)))

pub flat_map-map : {A B C : Type 0} (f : B → List C) (g : A → B) (xs : List A) → flat_map f (map g xs) ≡ flat_map (λ x. f (g x)) xs
flat_map-map f g [] = refl
flat_map-map f g (x ∷ xs) = ap (λ t. f (g x) ++ t) (flat_map-map f g xs)

-- a test that all elements of a list pass, where one is written, and where all are one value
pub all_set : {A : Type 0} (test : A → Bool) (xs : List A) (i : ℕ) (x : A) → IsTrue (test x) → IsTrue (list_all test xs) → IsTrue (list_all test (set xs i x))
all_set test [] i x new all = all
all_set test (y ∷ xs) zero x new all = rw new (and_parts (test y) (list_all test xs) all).1
all_set test (y ∷ xs) (suc i) x new all = let both = and_parts (test y) (list_all test xs) all in rw both.0 (all_set test xs i x new both.1)

pub all_replicate : {A : Type 0} (test : A → Bool) (n : ℕ) (x : A) → IsTrue (test x) → IsTrue (list_all test (replicate n x))
all_replicate test zero x new = refl
all_replicate test (suc n) x new = rw new (all_replicate test n x new)

-- and an element that it has
pub all_at : {A : Type 0} (test : A → Bool) (xs : List A) → IsTrue (list_all test xs) → (i : ℕ) (x : A) → slice_get xs i ≡ Some x → IsTrue (test x)
all_at test [] all i x e = cc
all_at test (y ∷ xs) all zero x e = let same : y ≡ x = cc in subst (λ z. IsTrue (test z)) same (and_parts (test y) (list_all test xs) all).0
all_at test (y ∷ xs) all (suc i) x e = all_at test xs (and_parts (test y) (list_all test xs) all).1 i x e

-- what a list holds at a place once one was written
pub set_cases : {A : Type 0} (xs : List A) (i : ℕ) (x d : A) (j : ℕ) → ((j ≡ i) × (get_or (set xs i x) j d ≡ x)) ⊎ (get_or (set xs i x) j d ≡ get_or xs j d)
set_cases [] i x d j = inr refl
set_cases (y ∷ xs) zero x d zero = inl (refl, refl)
set_cases (y ∷ xs) zero x d (suc j) = inr refl
set_cases (y ∷ xs) (suc i) x d zero = inr refl
set_cases (y ∷ xs) (suc i) x d (suc j) = ⊎_elim (λ t. inl (ap suc t.0, t.1)) (λ t. inr t) (set_cases xs i x d j)

-- and where that place is in the list
pub set_cases_inside : {A : Type 0} (xs : List A) (i : ℕ) (x d : A) (j : ℕ) → i < length xs
    → ((j ≡ i) × (get_or (set xs i x) j d ≡ x)) ⊎ ((j ≢ i) × (get_or (set xs i x) j d ≡ get_or xs j d))
set_cases_inside xs i x d j inside = go (eqb j i) refl
  where
    go : (b : Bool) → eqb j i ≡ b → ((j ≡ i) × (get_or (set xs i x) j d ≡ x)) ⊎ ((j ≢ i) × (get_or (set xs i x) j d ≡ get_or xs j d))
    go true e = inl (eqb-true j i e, subst (λ k. get_or (set xs i x) k d ≡ x) (sym (eqb-true j i e)) (get_or-set_same xs i x d inside))
    go false e =
        let other : j ≢ i = λ same. absurd (let clash : true ≡ false = sym (eq-eqb j i same) ∙ e in cc) in
        inr (other, get_or-set_other xs i j x d other)
