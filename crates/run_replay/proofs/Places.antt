-- One of a list whose place was filled anew.
use Rattle.std.proofs.Common.{◌≡◌, ◌≢◌, ◌<◌, ℕ, zero, suc, List, [], ◌∷◌, get_or, length, Some, refl, ap, arith}
use Rattle.std.proofs.lemmas.Option.{get_or_from_slice_get}
use Rattle.std.specs.Prelude.{slice_get, slice_set, map}

pub set_here : {A : Type 0} (xs : List A) (i : ℕ) (y : A) → i < length xs → slice_get (slice_set xs i y) i ≡ Some y
set_here [] i y within = absurd (omega (arith, within))
set_here (x ∷ xs) zero y within = refl
set_here (x ∷ xs) (suc i) y within = set_here xs i y (omega (arith, within))

pub set_else : {A : Type 0} (xs : List A) (i k : ℕ) (y : A) → k ≢ i → slice_get (slice_set xs i y) k ≡ slice_get xs k
set_else [] i k y other = refl
set_else (x ∷ xs) zero zero y other = absurd (other refl)
set_else (x ∷ xs) zero (suc k) y other = refl
set_else (x ∷ xs) (suc i) zero y other = refl
set_else (x ∷ xs) (suc i) (suc k) y other = set_else xs i k y (λ e. other (ap suc e))

pub set_map : {A B : Type 0} (f : A → B) (xs : List A) (i : ℕ) (y : A) → map f (slice_set xs i y) ≡ slice_set (map f xs) i (f y)
set_map f [] i y = refl
set_map f (x ∷ xs) zero y = refl
set_map f (x ∷ xs) (suc i) y = ap (λ ys. f x ∷ ys) (set_map f xs i y)

pub get_map : {A B : Type 0} (f : A → B) (xs : List A) (i : ℕ) (y : A) → slice_get xs i ≡ Some y → slice_get (map f xs) i ≡ Some (f y)
get_map f [] i y at = cc
get_map f (x ∷ xs) zero y at = let is : x ≡ y = cc in ap (λ z. Some (f z)) is
get_map f (x ∷ xs) (suc i) y at = get_map f xs i y at

-- what a list has at a place, of what another has there
pub read_at : {A B : Type 0} (f : A → B) (xs : List A) (d : ℕ) (x : A) (e : B) → slice_get xs d ≡ Some x → get_or (map f xs) d e ≡ f x
read_at f xs d x e was = get_or_from_slice_get (map f xs) d (f x) e (get_map f xs d x was)
