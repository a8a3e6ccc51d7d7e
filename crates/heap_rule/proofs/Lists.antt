-- Lists of views, and lists of words read at a place.
use Rattle.std.proofs.Common.{◌≡◌, ◌≢◌, ℕ, zero, suc, ◌<◌, ◌⊎◌, List, [], ◌∷◌, ◌++◌, length, set, slice_get, Some, sym, refl, ap, subst, inl, inr, ⊎_elim, arith}
use mathlib.Core.Option.{some, some-injective, some-ne-none}
use lib.ListN.{get_elem?}
use Rattle.atomic_table.proofs.Lists.{at_set}
use Rattle.heap_rule.specs.declared.view.DomainView.{DomainView}
use Rattle.heap_rule.specs.declared.view.View.{View}
use Rattle.heap_rule.specs.Views.{EachView, AllDomains, SomeDomain}

module _ {A : Type 0} where
  pub at_end : (l : List A) (a b : A) (j : ℕ) → get_elem? (l ++ a ∷ []) j ≡ some b → (get_elem? l j ≡ some b) ⊎ ((j ≡ length l) × (a ≡ b))
  at_end [] a b zero e = inr (refl, some-injective a b e)
  at_end [] a b (suc j) e = absurd (some-ne-none b (sym e))
  at_end (x ∷ xs) a b zero e = inl e
  at_end (x ∷ xs) a b (suc j) e = ⊎_elim inl (λ t. inr (ap suc t.0, t.1)) (at_end xs a b j e)

  pub at_below : (l : List A) (i : ℕ) (a : A) → get_elem? l i ≡ some a → i < length l
  at_below [] i a e = absurd (some-ne-none a (sym e))
  at_below (x ∷ xs) zero a e = omega arith
  at_below (x ∷ xs) (suc i) a e = let h = at_below xs i a e in omega arith

  -- the same by `slice_get`
  pub got_end : (l : List A) (a b : A) (j : ℕ) → slice_get (l ++ a ∷ []) j ≡ Some b → (slice_get l j ≡ Some b) ⊎ ((j ≡ length l) × (a ≡ b))
  got_end [] a b zero e = inr (refl, cc)
  got_end [] a b (suc j) e = cc
  got_end (x ∷ xs) a b zero e = inl e
  got_end (x ∷ xs) a b (suc j) e = ⊎_elim inl (λ t. inr (ap suc t.0, t.1)) (got_end xs a b j e)

  pub got_set : (l : List A) (i j : ℕ) (a b : A) → slice_get (set l i a) j ≡ Some b → ((j ≡ i) × (a ≡ b)) ⊎ ((j ≢ i) × (slice_get l j ≡ Some b))
  got_set [] i j a b e = cc
  got_set (x ∷ xs) zero zero a b e = inl (refl, cc)
  got_set (x ∷ xs) zero (suc j) a b e = inr ((λ h. omega arith), e)
  got_set (x ∷ xs) (suc i) zero a b e = inr ((λ h. omega arith), e)
  got_set (x ∷ xs) (suc i) (suc j) a b e = ⊎_elim (λ t. inl (ap suc t.0, t.1)) (λ t. let n = t.0 in inr ((λ h. n (omega arith)), t.1)) (got_set xs i j a b e)

  pub got_below : (l : List A) (i : ℕ) (a : A) → slice_get l i ≡ Some a → i < length l
  got_below [] i a e = cc
  got_below (x ∷ xs) zero a e = omega arith
  got_below (x ∷ xs) (suc i) a e = let h = got_below xs i a e in omega arith

  pub no_item : (l : List A) (i : ℕ) (a : A) → l ≡ [] → slice_get l i ≡ Some a → ⊥
  no_item [] i a none e = cc
  no_item (x ∷ xs) i a none e = cc

  pub got_there : (l : List A) (i : ℕ) → i < length l → (a : A) × (slice_get l i ≡ Some a)
  got_there [] i h = absurd (omega arith)
  got_there (x ∷ xs) zero h = (x, refl)
  got_there (x ∷ xs) (suc i) h = got_there xs i (omega arith)

-- each view keeps what it had, and the one that changed has it
pub views_set : (P Q : ℕ → View → Type 0) (views : List View) (id : ℕ) (w : View) → EachView P views → Q id w
    → ((j : ℕ) (v : View) → j ≢ id → P j v → Q j v) → EachView Q (set views id w)
views_set P Q views id w each mine others j v e = ⊎_elim (λ (t : (j ≡ id) × (w ≡ v)). subst (λ (x : ℕ × View). Q x.0 x.1) (λ i. (sym t.0 i, t.1 i)) mine)
    (λ (t : (j ≢ id) × (get_elem? views j ≡ some v)). others j v t.0 (each j v t.1)) (at_set views id j w v e)

-- a new view
pub views_new : (P : ℕ → View → Type 0) (views : List View) (w : View) → EachView P views → P (length views) w → EachView P (views ++ w ∷ [])
views_new P views w each mine j v e = ⊎_elim (λ (t : get_elem? views j ≡ some v). each j v t)
    (λ (t : (j ≡ length views) × (w ≡ v)). subst (λ (x : ℕ × View). P x.0 x.1) (λ i. (sym t.0 i, t.1 i)) mine) (at_end views w v j e)

pub domains_map : (P Q : DomainView → Type 0) (xs : List DomainView) → ((x : DomainView) → P x → Q x) → AllDomains P xs → AllDomains Q xs
domains_map P Q [] f a = tt
domains_map P Q (x ∷ xs) f a = (f x a.0, domains_map P Q xs f a.1)

-- with a second fact of each domain at hand
pub domains_with : (P R Q : DomainView → Type 0) (xs : List DomainView) → ((x : DomainView) → P x → R x → Q x) → AllDomains P xs → AllDomains R xs → AllDomains Q xs
domains_with P R Q [] f a b = tt
domains_with P R Q (x ∷ xs) f a b = (f x a.0 b.0, domains_with P R Q xs f a.1 b.1)

pub domains_both : (P : DomainView → Type 0) (xs ys : List DomainView) → AllDomains P xs → AllDomains P ys → AllDomains P (xs ++ ys)
domains_both P [] ys a b = b
domains_both P (x ∷ xs) ys a b = (a.0, domains_both P xs ys a.1 b)

-- one of them has the fact, and with it what all have
pub some_with : (P R Q : DomainView → Type 0) (xs : List DomainView) → ((x : DomainView) → P x → R x → Q x) → SomeDomain P xs → AllDomains R xs → SomeDomain Q xs
some_with P R Q [] f one all = absurd one
some_with P R Q (x ∷ xs) f one all = ⊎_elim (λ (here : P x). inl (f x here all.0)) (λ (there : SomeDomain P xs). inr (some_with P R Q xs f there all.1)) one
