-- What is kept of each run, as one run changes.
use Rattle.std.proofs.Common.{◌≡◌, ◌≢◌, ◌<◌, ℕ, zero, suc, List, [], ◌∷◌, length, refl, arith, map, get_or, set, slice_get, option_map, Some, sym, ap, ◌∙◌}
use Rattle.std.proofs.Math.Seq.{map-set_same}
use Rattle.std.proofs.lemmas.Option.{get_or_from_slice_get, slice_get-map}

-- it has what another list has, at its place
pub read_at : {A B : Type 0} (f : A → B) (xs : List A) (d : ℕ) (x : A) (e : B) → slice_get xs d ≡ Some x → get_or (map f xs) d e ≡ f x
read_at f xs d x e was = get_or_from_slice_get (map f xs) d (f x) e (slice_get-map f xs d ∙ ap (option_map f) was)

-- and where that stays the list does
pub kept_at : {A B : Type 0} (f : A → B) (xs : List A) (d : ℕ) (x y : A) → slice_get xs d ≡ Some x → f y ≡ f x → map f (set xs d y) ≡ map f xs
kept_at f xs d x y was same = map-set_same f xs d y y (same ∙ ap f (sym (get_or_from_slice_get xs d x y was)))

-- what stands at a place of a list after it was filled anew
pub filled_here : {A : Type 0} (xs : List A) (i : ℕ) (y : A) → i < length xs → slice_get (set xs i y) i ≡ Some y
filled_here [] i y within = absurd (omega (arith, within))
filled_here (x ∷ xs) zero y within = refl
filled_here (x ∷ xs) (suc i) y within = filled_here xs i y (omega (arith, within))

pub filled_else : {A : Type 0} (xs : List A) (i k : ℕ) (y : A) → k ≢ i → slice_get (set xs i y) k ≡ slice_get xs k
filled_else [] i k y other = refl
filled_else (x ∷ xs) zero zero y other = absurd (other refl)
filled_else (x ∷ xs) zero (suc k) y other = refl
filled_else (x ∷ xs) (suc i) zero y other = refl
filled_else (x ∷ xs) (suc i) (suc k) y other = filled_else xs i k y (λ e. other (ap suc e))
