-- Places of which one has changed.
use Rattle.std.proofs.Common.{◌≡◌, ◌≢◌, ◌∙◌, ◌<◌, ◌≤◌, ℕ, ◌+◌, zero, suc, List, [], ◌∷◌, ◌++◌, length, length-append, refl, sym, ap, subst, arith}
use Rattle.std.specs.Prelude.{slice_index_or, slice_set}
use Rattle.run_threads.specs.Driven.{AllAre}
use Rattle.run_threads.specs.Placing.{AllBegan, Began}
use Rattle.run_threads.specs.declared.place.Place.{Place}
use Rattle.run_threads.proofs.Places.{any_else, at_set}

pub set_length : {A : Type 0} (xs : List A) (i : ℕ) (y : A) → length (slice_set xs i y) ≡ length xs
set_length [] i y = refl
set_length (x ∷ xs) zero y = refl
set_length (x ∷ xs) (suc i) y = ap suc (set_length xs i y)

-- what holds of each one of a list holds of each once one that it holds of was put at a place
pub set_all : {A : Type 0} (P : A → Type 0) (xs : List A) (i : ℕ) (y : A) → i < length xs → AllAre P xs → P y → AllAre P (slice_set xs i y)
set_all P xs i y within all here k d few = at_set P xs i k y d within (λ same. here) (λ other. all k d (let long = set_length xs i y in omega (arith, few, long)))

-- what holds of each one holds of the one at a place
pub one_of : {A : Type 0} (P : A → Type 0) (xs : List A) (i : ℕ) (x : A) → i < length xs → AllAre P xs → x ≡ slice_index_or xs i x → P x
one_of P xs i x within all is = subst P (sym is) (all i x within)

-- what holds of each one holds of each once one that it holds of was pushed
pub pushed_at : {A : Type 0} (Q : A → Type 0) (xs : List A) (y : A) (k : ℕ) (d : A) → k < length xs + 1 → (k < length xs → Q (slice_index_or xs k d)) → (k ≡ length xs → Q y) → Q (slice_index_or (xs ++ y ∷ []) k d)
pushed_at Q [] y zero d few front last = last refl
pushed_at Q [] y (suc k) d few front last = absurd (omega (arith, few))
pushed_at Q (x ∷ xs) y zero d few front last = front (omega arith)
pushed_at Q (x ∷ xs) y (suc k) d few front last = pushed_at Q xs y k d (omega (arith, few)) (λ f. front (omega (arith, f))) (λ e. last (ap suc e))

pub pushed_all : {A : Type 0} (P : A → Type 0) (xs : List A) (y : A) → AllAre P xs → P y → AllAre P (xs ++ y ∷ [])
pushed_all P xs y all here k d few = pushed_at P xs y k d (let long = length-append xs (y ∷ []) in omega (arith, few, long)) (all k d) (λ same. here)

-- those before the last
pub front_one : {A : Type 0} (ts us : List A) (t : A) (k : ℕ) (d : A) → ts ≡ us ++ t ∷ [] → k < length us → slice_index_or us k d ≡ slice_index_or ts k d
front_one {A} ts us t k d items few = pushed_at (λ (x : A). slice_index_or us k d ≡ x) us t k d (omega (arith, few)) (λ f. refl) (λ same. absurd (omega (arith, few, same))) ∙ ap (λ (l : List A). slice_index_or l k d) (sym items)

-- and the last
pub last_one : {A : Type 0} (ts us : List A) (t : A) (n : ℕ) (d : A) → ts ≡ us ++ t ∷ [] → n ≡ length us → slice_index_or ts n d ≡ t
last_one {A} ts us t n d items is = ap (λ (l : List A). slice_index_or l n d) items ∙ pushed_at (λ (x : A). x ≡ t) us t n d (omega (arith, is)) (λ f. absurd (omega (arith, f, is))) (λ same. refl)

-- one of a list that isn't empty
pub some_of : {A : Type 0} (xs : List A) (k : ℕ) → k < length xs → A
some_of [] k few = absurd (omega (arith, few))
some_of (x ∷ xs) k few = x

module _ {S T : Type 0} (follows : T → T → Type 0) where
  -- what began at each place is there still once one was put at a place at which what began at the old one began
  pub set_began : (old places : List (Place S T)) (i : ℕ) (x y : Place S T) → i < length places → x ≡ slice_index_or places i x → AllBegan follows old places
      → ((began : T) → Began follows began x → Began follows began y) → AllBegan follows old (slice_set places i y)
  set_began old places i x y within is all here = (
    set_length places i y ∙ all.0,
    λ k began d few first. at_set (Began follows began) places i k y d within
        (λ same. here began (subst (Began follows began) (ap (λ (j : ℕ). slice_index_or places j d) same ∙ any_else places i d x within ∙ sym is) (all.1 k began d few first)))
        (λ other. all.1 k began d few first),
  )

  pub began_on : (a b c : List (Place S T)) → AllBegan follows a b → AllBegan follows b c → AllBegan follows a c
  began_on a b c p q = (q.0 ∙ p.0, λ k began d few first. q.1 k began d (subst (λ (n : ℕ). k < n) (sym p.0) few) (p.1 k began d few first))

  -- at each place from this one on is what began there
  abbrev pub Filled : List T → ℕ → List (Place S T) → Type 0
  Filled init n places = (k : ℕ) (d : T) (e : Place S T) → n ≤ k → k < length init → Began follows (slice_index_or init k d) (slice_index_or places k e)

  -- one more place is filled, by the last of the traces that are left
  pub fill_one : (init ts us : List T) (places : List (Place S T)) (n : ℕ) (t : T) (p : Place S T) → ts ≡ us ++ t ∷ [] → n ≡ length us → length ts ≤ length init → n < length places
      → ((k : ℕ) (d : T) → k < length ts → slice_index_or ts k d ≡ slice_index_or init k d) → Filled init (length ts) places → Began follows t p → Filled init n (slice_set places n p)
  fill_one init ts us places n t p items here long room front filled began k d e from few =
      let more : length ts ≡ length us + 1 = ap length items ∙ length-append us (t ∷ []) in
      at_set (Began follows (slice_index_or init k d)) places n k p e room
      (λ same. subst (λ (x : T). Began follows x p) (sym (last_one ts us t n d items here) ∙ (ap (λ (j : ℕ). slice_index_or ts j d) (sym same) ∙ front k d (let is : k ≡ n = same in omega (arith, is, here, more)))) began)
      (λ other. filled k d e (let past : k ≢ n = other in omega (arith, past, from, here, more)) few)
