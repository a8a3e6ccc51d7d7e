-- What stands at a place of a list.
use Rattle.std.proofs.Common.{◌≡◌, ◌≢◌, ◌⊎◌, ℕ, zero, suc, List, [], ◌∷◌, ◌++◌, length, set, sym, refl, ap, subst, ⊎_elim, inl, inr}
use mathlib.Core.Option.{some, some-injective, some-ne-none}
use lib.ListN.{get_elem?}
use Rattle.crossbeam_queue.proofs.Lists.{at_set}

module _ {A : Type 0} where
  -- of a list of one
  pub only : (a b : A) (port : ℕ) → get_elem? (a ∷ []) port ≡ some b → (port ≡ 0) × (a ≡ b)
  only a b zero e = (refl, some-injective a b e)
  only a b (suc port) e = absurd (some-ne-none b (sym e))

  -- of one with another behind
  pub at_more : (l : List A) (a b : A) (j : ℕ) → get_elem? (l ++ a ∷ []) j ≡ some b → (get_elem? l j ≡ some b) ⊎ ((j ≡ length l) × (a ≡ b))
  at_more [] a b zero e = inr (refl, some-injective a b e)
  at_more [] a b (suc j) e = absurd (some-ne-none b (sym e))
  at_more (x ∷ xs) a b zero e = inl e
  at_more (x ∷ xs) a b (suc j) e = ⊎_elim (λ here. inl here) (λ t. inr (ap suc t.0, t.1)) (at_more xs a b j e)

  -- of one in which one was changed
  pub all_set : (F : ℕ → A → Type 0) (l : List A) (port : ℕ) (w : A) → F port w → ((j : ℕ) (u : A) → j ≢ port → get_elem? l j ≡ some u → F j u) → (j : ℕ) (u : A) → get_elem? (set l port w) j ≡ some u → F j u
  all_set F l port w mine others j u e = ⊎_elim (λ (x : (j ≡ port) × (w ≡ u)). subst (λ (y : ℕ × A). F y.0 y.1) (λ i. (sym x.0 i, x.1 i)) mine)
      (λ (x : (j ≢ port) × (get_elem? l j ≡ some u)). others j u x.0 x.1) (at_set l port j w u e)
