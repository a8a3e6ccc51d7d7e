-- The places of a list at which its elements pass a test: they rise, and in reverse they fall.
use Rattle.std.proofs.Common.{◌≡◌, ℕ, zero, suc, ◌+◌, ◌<◌, ◌≤◌, Bool, true, false, cond, ◌&&◌, List, [], ◌∷◌, ◌++◌, length, refl, sym, ap, ◌∙◌, subst, arith}
use Rattle.std.specs.Prelude.{filter, nat_lt, remove, reverse, slice_get}
use Rattle.std.specs.List.{list_all, range_with_len}
use Rattle.std.proofs.lemmas.Bool.Decides.{nat_tests}
use Rattle.std.proofs.lemmas.List.{reverse-append}
use Rattle.model_core.specs.Entries.{is_rising, is_some_and}
use Rattle.model_traces.specs.Schedules.Scheduled.{places_where}

module _ (passes : ℕ → Bool) where
  -- numbers that rise from one on, below another, each of which passes
  abbrev pub Rises : ℕ → ℕ → List ℕ → Type 0
  Rises a b [] = a ≤ b
  Rises a b (p ∷ ps) = (a ≤ p) × (passes p ≡ true) × Rises (p + 1) b ps

  -- and that fall below one, and not below another
  abbrev pub Falls : ℕ → ℕ → List ℕ → Type 0
  Falls a b [] = a ≤ b
  Falls a b (p ∷ ps) = (p < b) × (passes p ≡ true) × Falls a p ps

  rises_sooner : (a b c : ℕ) (ps : List ℕ) → c ≤ a → Rises a b ps → Rises c b ps
  rises_sooner a b c [] less r = omega (arith, less, r)
  rises_sooner a b c (p ∷ ps) less r = let first : c ≤ p = omega (arith, less, r.0) in (first, r.1, r.2)

  pub filter_rises : (n a b : ℕ) → a + n ≡ b → Rises a b (filter passes (range_with_len a n))
  filter_rises zero a b is = omega (arith, is)
  filter_rises (suc n) a b is = go (passes a) refl (filter_rises n (a + 1) b (omega (arith, is)))
    where
      go : (t : Bool) → passes a ≡ t → Rises (a + 1) b (filter passes (range_with_len (a + 1) n)) → Rises a b (cond t (a ∷ filter passes (range_with_len (a + 1) n)) (filter passes (range_with_len (a + 1) n)))
      go true e rest = let first : a ≤ a = omega arith in (first, e, rest)
      go false e rest = rises_sooner (a + 1) b a (filter passes (range_with_len (a + 1) n)) (omega arith) rest

  rises_least : (a b : ℕ) (ps : List ℕ) → Rises a b ps → a ≤ b
  rises_least a b [] r = r
  rises_least a b (p ∷ ps) r = let rest = rises_least (p + 1) b ps r.2 in omega (arith, r.0, rest)

  -- such numbers rise, are below the bound and pass
  pub are_rising : (a b p : ℕ) (ps : List ℕ) → Rises a b (p ∷ ps) → is_rising (p ∷ ps) ≡ true
  are_rising a b p [] r = refl
  are_rising a b p (q ∷ ps) r = let less : nat_lt p q ≡ true = let l = r.2.0 in grind (arith, nat_tests) in ap (λ t. t && is_rising (q ∷ ps)) less ∙ are_rising (p + 1) b q ps r.2

  pub are_below : (a b : ℕ) (ps : List ℕ) → Rises a b ps → list_all (λ p. nat_lt p b) ps ≡ true
  are_below a b [] r = refl
  are_below a b (p ∷ ps) r =
      let rest = rises_least (p + 1) b ps r.2 in
      let less : nat_lt p b ≡ true = grind (arith, nat_tests) in
      ap (λ t. t && list_all (λ q. nat_lt q b) ps) less ∙ are_below (p + 1) b ps r.2

  pub all_pass : (a b : ℕ) (ps : List ℕ) → Rises a b ps → list_all passes ps ≡ true
  all_pass a b [] r = refl
  all_pass a b (p ∷ ps) r = ap (λ t. t && list_all passes ps) r.1 ∙ all_pass (p + 1) b ps r.2

  falls_push : (a b : ℕ) (ps : List ℕ) → Falls (a + 1) b ps → passes a ≡ true → Falls a b (ps ++ a ∷ [])
  falls_push a b [] f e = let less : a < b = omega (arith, f) in let none : a ≤ a = omega arith in (less, e, none)
  falls_push a b (p ∷ ps) f e = (f.0, f.1, falls_push a p ps f.2 e)

  falls_further : (a b c : ℕ) (ps : List ℕ) → c ≤ a → Falls a b ps → Falls c b ps
  falls_further a b c [] less f = omega (arith, less, f)
  falls_further a b c (p ∷ ps) less f = (f.0, f.1, falls_further a p c ps less f.2)

  pub reverse_falls : (a b : ℕ) (ps : List ℕ) → Rises a b ps → Falls a b (reverse ps)
  reverse_falls a b [] r = r
  reverse_falls a b (p ∷ ps) r =
      subst (Falls a b) (sym (reverse-append (p ∷ []) ps)) (falls_further p b a (reverse ps ++ p ∷ []) r.0 (falls_push p b (reverse ps) (reverse_falls (p + 1) b ps r.2) r.1))

-- another test that they pass
pub falls_by : (passes other : ℕ → Bool) (a b c : ℕ) (ps : List ℕ) → b ≤ c → ((p : ℕ) → p < c → passes p ≡ true → other p ≡ true) → Falls passes a b ps → Falls other a b ps
falls_by passes other a b c [] less by f = f
falls_by passes other a b c (p ∷ ps) less by f = (f.0, by p (omega (arith, f.0, less)) f.1, falls_by passes other a p c ps (omega (arith, f.0, less)) by f.2)

module _ {A : Type 0} (test : A → Bool) where
  -- the places at which a list's elements pass
  pub places_rise : (xs : List A) → Rises (λ p. is_some_and test (slice_get xs p)) 0 (length xs) (places_where test xs)
  places_rise xs = filter_rises (λ p. is_some_and test (slice_get xs p)) (length xs) 0 (length xs) (omega arith)

-- before a place that is removed all is as it was
pub get_before : {A : Type 0} (xs : List A) (i p : ℕ) → p < i → slice_get (remove xs i) p ≡ slice_get xs p
get_before [] zero p less = refl
get_before [] (suc i) p less = refl
get_before (x ∷ xs) zero p less = absurd (omega (arith, less))
get_before (x ∷ xs) (suc i) zero less = refl
get_before (x ∷ xs) (suc i) (suc p) less = get_before xs i p (omega (arith, less))
