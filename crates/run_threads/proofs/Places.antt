-- What one of a list is, once another was put at a place.
use Rattle.std.proofs.Common.{◌≡◌, ◌≢◌, ◌<◌, ℕ, zero, suc, List, [], ◌∷◌, length, refl, ap, arith}
use Rattle.std.specs.Prelude.{slice_index_or, slice_set}

-- what one of a list is after another was put at one place: that one there, and as before elsewhere
pub at_set : {A : Type 0} (P : A → Type 0) (xs : List A) (i k : ℕ) (y d : A) → i < length xs → (k ≡ i → P y) → (k ≢ i → P (slice_index_or xs k d)) → P (slice_index_or (slice_set xs i y) k d)
at_set P [] i k y d within here elsewhere = absurd (omega (arith, within))
at_set P (x ∷ xs) zero zero y d within here elsewhere = here refl
at_set P (x ∷ xs) zero (suc k) y d within here elsewhere = elsewhere (λ e. omega (arith, e))
at_set P (x ∷ xs) (suc i) zero y d within here elsewhere = elsewhere (λ e. omega (arith, e))
at_set P (x ∷ xs) (suc i) (suc k) y d within here elsewhere = at_set P xs i k y d (omega (arith, within)) (λ e. here (ap suc e)) (λ other. elsewhere (λ e. other (omega (arith, e))))

-- what one of a list is has nothing to do with what stands for one that isn't there
pub any_else : {A : Type 0} (xs : List A) (i : ℕ) (d e : A) → i < length xs → slice_index_or xs i d ≡ slice_index_or xs i e
any_else [] i d e within = absurd (omega (arith, within))
any_else (x ∷ xs) zero d e within = refl
any_else (x ∷ xs) (suc i) d e within = any_else xs i d e (omega (arith, within))
