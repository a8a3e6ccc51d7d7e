-- A list of numbers with one more, and what is folded, filtered or mapped over it.
use Rattle.std.proofs.Common.{◌≡◌, ℕ, zero, suc, ◌+◌, ◌<◌, Bool, true, false, cond, List, [], ◌∷◌, ◌++◌, length, take, get_or, map, filter, flat_map, fold, reverse, set, refl, ap, ◌∙◌, arith, append-nil}
use Rattle.std.specs.List.{range_with_len}
use Rattle.std.proofs.lemmas.List.{take_more}
use Rattle.std.proofs.lemmas.List.{map-append, map-set, reverse-append}
use Rattle.std.proofs.lemmas.List.Elements.{filter-append}
use Rattle.std.proofs.lemmas.List.Concat.{flat_map-append}
use Rattle.std.proofs.lemmas.List.Sums.{fold-append}

-- the numbers from a on, with one more
pub range_more : (a n : ℕ) → range_with_len a (n + 1) ≡ range_with_len a n ++ (a + n) ∷ []
range_more a zero = let same : a + 0 ≡ a = omega arith in rw same refl
range_more a (suc n) =
    let more : suc n + 1 ≡ suc (n + 1) = omega arith in
    let same : (a + 1) + n ≡ a + suc n = omega arith in
    ap (range_with_len a) more ∙ ap (λ t. a ∷ t) (range_more (a + 1) n) ∙ ap (λ x. a ∷ (range_with_len (a + 1) n ++ x ∷ [])) same

zero_more : (n : ℕ) → range_with_len 0 (n + 1) ≡ range_with_len 0 n ++ n ∷ []
zero_more n = let same : 0 + n ≡ n = omega arith in range_more 0 n ∙ ap (λ x. range_with_len 0 n ++ x ∷ []) same

filter_one : (p : ℕ → Bool) (n : ℕ) (b : Bool) → p n ≡ b → filter p (n ∷ []) ≡ cond b (n ∷ []) []
filter_one p n true is = rw is refl
filter_one p n false is = rw is refl

pub filter_more : (p : ℕ → Bool) (n : ℕ) → filter p (range_with_len 0 (n + 1)) ≡ filter p (range_with_len 0 n) ++ cond (p n) (n ∷ []) []
filter_more p n = ap (filter p) (zero_more n) ∙ filter-append p (range_with_len 0 n) (n ∷ []) ∙ ap (λ t. filter p (range_with_len 0 n) ++ t) (filter_one p n (p n) refl)

pub flat_map_more : {A : Type 0} (f : ℕ → List A) (n : ℕ) → flat_map f (range_with_len 0 (n + 1)) ≡ flat_map f (range_with_len 0 n) ++ f n
flat_map_more f n = ap (flat_map f) (zero_more n) ∙ flat_map-append f (range_with_len 0 n) (n ∷ []) ∙ ap (λ t. flat_map f (range_with_len 0 n) ++ t) (append-nil (f n))

pub map_more : {A : Type 0} (f : ℕ → A) (n : ℕ) → map f (range_with_len 1 (n + 1)) ≡ map f (range_with_len 1 n) ++ f (n + 1) ∷ []
map_more f n = let same : 1 + n ≡ n + 1 = omega arith in ap (map f) (range_more 1 n) ∙ map-append f (range_with_len 1 n) ((1 + n) ∷ []) ∙ ap (λ x. map f (range_with_len 1 n) ++ f x ∷ []) same

pub fold_more : {A : Type 0} (f : A → ℕ → A) (x : A) (n : ℕ) → fold f x (range_with_len 0 (n + 1)) ≡ f (fold f x (range_with_len 0 n)) n
fold_more f x n = ap (fold f x) (zero_more n) ∙ fold-append f x (range_with_len 0 n) (n ∷ [])

pub fold_take : {A B : Type 0} (f : B → A → B) (x : B) (xs : List A) (i : ℕ) (d : A) → i < length xs → fold f x (take (i + 1) xs) ≡ f (fold f x (take i xs)) (get_or xs i d)
fold_take f x xs i d below = ap (fold f x) (take_more xs i d below) ∙ fold-append f x (take i xs) (get_or xs i d ∷ [])

pub map_take : {A B : Type 0} (f : A → B) (xs : List A) (i : ℕ) (d : A) → i < length xs → map f (take (i + 1) xs) ≡ map f (take i xs) ++ f (get_or xs i d) ∷ []
map_take f xs i d below = ap (map f) (take_more xs i d below) ∙ map-append f (take i xs) (get_or xs i d ∷ [])

pub reverse_map : {A : Type 0} (f : ℕ → A) (p : ℕ) (ps : List ℕ) → map f (reverse (p ∷ ps)) ≡ map f (reverse ps) ++ f p ∷ []
reverse_map f p ps = ap (map f) (reverse-append (p ∷ []) ps) ∙ map-append f (reverse ps) (p ∷ [])

pub map_set : {A B : Type 0} (f : A → B) (xs : List A) (i : ℕ) (x : A) → map f (set xs i x) ≡ set (map f xs) i (f x)
map_set f xs i x = map-set f xs i x
