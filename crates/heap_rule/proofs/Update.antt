-- A function with another value at one number.
use Rattle.std.proofs.Common.{◌≡◌, ◌≢◌, ℕ, Bool, cond, eqb, eq-eqb, ne_eqb, ap, refl}

unfoldable pub over : {A : Type 0} → ℕ → A → (ℕ → A) → ℕ → A
over n a f m = cond (eqb m n) a (f m)

module _ {A : Type 0} (n : ℕ) (a : A) (f : ℕ → A) where
  pub over_here : over n a f n ≡ a
  unfolding over
  over_here = ap (λ (b : Bool). cond b a (f n)) (eq-eqb n n refl)

  pub over_else : (m : ℕ) → m ≢ n → over n a f m ≡ f m
  unfolding over
  over_else m other = ap (λ (b : Bool). cond b a (f m)) (ne_eqb m n other)
