-- Sums over lists from which elements at rising places are taken.
use Rattle.std.proofs.Common.{◌≡◌, ℕ, zero, suc, ◌+◌, ◌<◌, ◌≤◌, Bool, true, false, cond, nat_lt, IsTrue, List, [], ◌∷◌, ◌++◌, map, reverse, remove, slice_get, option_to_list, count_by, get_or, set, length, Option, Some, None, refl, ap, sym, ◌∙◌, subst, arith, eqb, eq-eqb, eqb-true, get_or-set_same}
use Rattle.std.specs.List.{cons_option}
use Rattle.std.proofs.lemmas.Bool.{ltb-true}
use Rattle.std.proofs.lemmas.List.{reverse-append, get_or-set_other}
use Rattle.std.proofs.lemmas.List.Elements.{filter_map-append}
use Rattle.std.proofs.lemmas.List.Recursion.{is_count_by}
use Rattle.model_core.specs.declared.state.DomainState.{DomainState}
use Rattle.model_core.specs.Domains.{no_domain}
use Rattle.model_core.specs.Entries.{is_rising, without_places, at_places}
use Rattle.model_core.proofs.Reach.ReachLemmas.{and_left, and_right}

-- the sum of a function over a list
abbrev pub tally : {A : Type 0} → (A → ℕ) → List A → ℕ
tally f [] = 0
tally f (x ∷ xs) = f x + tally f xs

pub tally-append : {A : Type 0} (f : A → ℕ) (xs ys : List A) → tally f (xs ++ ys) ≡ tally f xs + tally f ys
tally-append f [] ys = omega arith
tally-append f (x ∷ xs) ys = omega (arith, tally-append f xs ys)

pub tally-map : {A B : Type 0} (f : B → ℕ) (g : A → B) (xs : List A) → tally f (map g xs) ≡ tally (λ x. f (g x)) xs
tally-map f g [] = refl
tally-map f g (x ∷ xs) = ap (λ n. f (g x) + n) (tally-map f g xs)

pub tally-cond : {A : Type 0} (f : A → ℕ) (b : Bool) (xs : List A) → tally f (cond b xs []) ≡ cond b (tally f xs) 0
tally-cond f true xs = refl
tally-cond f false xs = refl

-- a count is such a sum
abbrev pub counted : {A : Type 0} → (A → Bool) → A → ℕ
counted test x = cond (test x) 1 0

pub tally_count : {A : Type 0} (test : A → Bool) (xs : List A) → tally (counted test) xs ≡ count_by test xs
tally_count test = is_count_by (tally (counted test)) test refl (λ x xs. one (test x) (tally (counted test) xs))
  where
    one : (b : Bool) (n : ℕ) → cond b 1 0 + n ≡ cond b (1 + n) n
    one true n = refl
    one false n = omega arith

-- an element that leaves a list
pub tally-remove : {A : Type 0} (f : A → ℕ) (xs : List A) (i : ℕ) → tally f (remove xs i) + tally f (option_to_list (slice_get xs i)) ≡ tally f xs
tally-remove f [] zero = refl
tally-remove f [] (suc i) = refl
tally-remove f (x ∷ xs) zero = omega arith
tally-remove f (x ∷ xs) (suc i) = omega (arith, tally-remove f xs i)

get-remove_below : {A : Type 0} (xs : List A) (i p : ℕ) → p < i → slice_get (remove xs i) p ≡ slice_get xs p
get-remove_below xs zero p lt = absurd (omega arith)
get-remove_below [] (suc i) p lt = refl
get-remove_below (x ∷ xs) (suc i) zero lt = refl
get-remove_below (x ∷ xs) (suc i) (suc p) lt = get-remove_below xs i p (omega arith)

-- places above a place, and places each below the next
abbrev pub Above : ℕ → List ℕ → Type 0
Above p [] = Unit {0}
Above p (q ∷ ps) = (p < q) × Above p ps

abbrev pub Increasing : List ℕ → Type 0
Increasing [] = Unit {0}
Increasing (p ∷ ps) = Above p ps × Increasing ps

above_more : (p q : ℕ) (ps : List ℕ) → p < q → Above q ps → Above p ps
above_more p q [] lt above = tt
above_more p q (r ∷ ps) lt above = (let h : q < r = above.0 in omega arith, above_more p q ps lt above.1)

rising_above : (p : ℕ) (ps : List ℕ) → IsTrue (is_rising (p ∷ ps)) → Above p ps
rising_above p [] rising = tt
rising_above p (q ∷ ps) rising =
    let lt : p < q = ltb-true p q (and_left (nat_lt p q) (is_rising (q ∷ ps)) rising) in
    (lt, above_more p q ps lt (rising_above q ps (and_right (nat_lt p q) (is_rising (q ∷ ps)) rising)))

pub increasing : (ps : List ℕ) → IsTrue (is_rising ps) → Increasing ps
increasing [] rising = tt
increasing (p ∷ []) rising = (tt, tt)
increasing (p ∷ q ∷ ps) rising = (rising_above p (q ∷ ps) rising, increasing (q ∷ ps) (and_right (nat_lt p q) (is_rising (q ∷ ps)) rising))

get-without_above : {A : Type 0} (xs : List A) (p : ℕ) (ps : List ℕ) → Above p ps → slice_get (without_places ps xs) p ≡ slice_get xs p
get-without_above xs p [] above = refl
get-without_above xs p (q ∷ ps) above = get-remove_below (without_places ps xs) q p above.0 ∙ get-without_above xs p ps above.1

pub one_place : {A : Type 0} (f : A → ℕ) (o : Option A) → tally f (cons_option o []) ≡ tally f (option_to_list o)
one_place f None = refl
one_place f (Some x) = refl

-- the elements at rising places that leave a list, in any order
pub tally-without : {A : Type 0} (f : A → ℕ) (xs : List A) (ps : List ℕ) → Increasing ps → tally f (without_places ps xs) + tally f (at_places (reverse ps) xs) ≡ tally f xs
tally-without f xs [] rising = omega arith
tally-without {A} f xs (p ∷ ps) rising =
    let rest : List A = without_places ps xs in
    let taken = tally-remove f rest p in
    let there : tally f (option_to_list (slice_get rest p)) ≡ tally f (option_to_list (slice_get xs p)) = ap (λ o. tally f (option_to_list o)) (get-without_above xs p ps rising.0) in
    let later : reverse (p ∷ ps) ≡ reverse ps ++ p ∷ [] = reverse-append (p ∷ []) ps in
    let split : tally f (at_places (reverse (p ∷ ps)) xs) ≡ tally f (at_places (reverse ps) xs) + tally f (cons_option (slice_get xs p) []) =
    ap (λ z. tally f (at_places z xs)) later ∙ ap (tally f) (filter_map-append (slice_get xs) (reverse ps) (p ∷ [])) ∙ tally-append f (at_places (reverse ps) xs) (at_places (p ∷ []) xs) in
    let one = one_place f (slice_get xs p) in
    omega (arith, taken, there, split, one, tally-without f xs ps rising.1)

-- a domain that changes
module _ (W : DomainState → ℕ) where
  pub changed_at : (xs : List DomainState) (d : ℕ) (x : DomainState) (k less more : ℕ) → d < length xs → W x + less ≤ W (get_or xs d no_domain) + more
      → W (get_or (set xs d x) k no_domain) + cond (eqb d k) less 0 ≤ W (get_or xs k no_domain) + cond (eqb d k) more 0
  changed_at xs d x k less more inside le = go (eqb d k) refl
    where
      go : (b : Bool) → eqb d k ≡ b → W (get_or (set xs d x) k no_domain) + cond b less 0 ≤ W (get_or xs k no_domain) + cond b more 0
      go true e =
          let same : d ≡ k = eqb-true d k e in
          let own : W (get_or (set xs d x) d no_domain) ≡ W x = ap W (get_or-set_same xs d x no_domain inside) in
          let here : W (get_or (set xs d x) d no_domain) + less ≤ W (get_or xs d no_domain) + more = omega arith in
          subst (λ j. W (get_or (set xs d x) j no_domain) + less ≤ W (get_or xs j no_domain) + more) same here
      go false e =
          let other : k ≡ d → ⊥ = λ h. let clash : true ≡ false = sym (eq-eqb d k (sym h)) ∙ e in cc in
          let kept : W (get_or (set xs d x) k no_domain) ≡ W (get_or xs k no_domain) = ap W (get_or-set_other xs d k x no_domain other) in
          omega arith

  pub changed_less : (xs : List DomainState) (d : ℕ) (x : DomainState) → W x ≤ W (get_or xs d no_domain) → (k : ℕ) → W (get_or (set xs d x) k no_domain) ≤ W (get_or xs k no_domain)
  changed_less [] d x le k = omega arith
  changed_less (y ∷ xs) zero x le zero = le
  changed_less (y ∷ xs) zero x le (suc k) = omega arith
  changed_less (y ∷ xs) (suc d) x le zero = omega arith
  changed_less (y ∷ xs) (suc d) x le (suc k) = changed_less xs d x le k

  pub mapped_less : (g : DomainState → DomainState) → ((x : DomainState) → W (g x) ≤ W x) → (xs : List DomainState) (k : ℕ) → W (get_or (map g xs) k no_domain) ≤ W (get_or xs k no_domain)
  mapped_less g le [] k = omega arith
  mapped_less g le (x ∷ xs) zero = le x
  mapped_less g le (x ∷ xs) (suc k) = mapped_less g le xs k
