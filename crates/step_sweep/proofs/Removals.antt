-- A list from which one of its addresses was taken out: the last one is at its place.
use Rattle.std.proofs.Common.{◌≡◌, ◌≢◌, ℕ, zero, suc, ◌-◌, ◌<◌, ◌==◌, IsTrue, eq-eqb, eqb-true, List, [], ◌∷◌, length, get_or, set, slice_get, Some, sym, ap, ◌∙◌, subst, ⊎_elim, arith, length-set, get_or-set_same, get_or-set_other}
use Rattle.std.proofs.lemmas.Option.{slice_get_within, get_or_from_slice_get, slice_get-get_or}
use Rattle.std.proofs.lemmas.List.{get_or-take, length-take-le}
use Rattle.std.specs.List.{swap_remove}
use mathlib.Core.Logic.{dite}
use native.Mathlib.Decide.{ℕ_discrete}
use Rattle.model_core.proofs.Reach.ReachLemmas.{or_cases, or_left, or_right}
use Rattle.heap_rule.specs.Cycles.{seen_by}

-- a member of a list is among it
pub among : (l : List ℕ) (i a : ℕ) → slice_get l i ≡ Some a → IsTrue (seen_by l a)
among [] i a e = cc
among (b ∷ l) zero a e = let same : Some b ≡ Some a = e in let is : a ≡ b = cc in or_left (a == b) (seen_by l a) (eq-eqb a b is)
among (b ∷ l) (suc i) a e = or_right (a == b) (seen_by l a) (among l i a e)

-- and what is among it is a member
pub seen_at : (l : List ℕ) (a : ℕ) → IsTrue (seen_by l a) → (i : ℕ) × (slice_get l i ≡ Some a)
seen_at [] a is = cc
seen_at (b ∷ l) a is = ⊎_elim
    (λ (here : IsTrue (a == b)). (zero, ap Some (sym (eqb-true a b here))))
    (λ (later : IsTrue (seen_by l a)). let t = seen_at l a later in (suc t.0, t.1))
    (or_cases (a == b) (seen_by l a) is)

module _ (l : List ℕ) (i at : ℕ) (there : slice_get l i ≡ Some at) where
  abbrev n : ℕ
  n = length l - 1

  abbrev last : ℕ
  last = get_or l n at

  abbrev moved : List ℕ
  moved = set l i last

  abbrev pub removed : List ℕ
  removed = swap_remove l i at

  inside : i < length l
  inside = slice_get_within l i at there

  pub shorter : length removed ≡ n
  shorter = length-take-le n moved (let m : ℕ = length l in let e : length moved ≡ m = length-set l i last in omega arith)

  -- a place of the shorter list
  got : (j : ℕ) → j < n → slice_get removed j ≡ Some (get_or moved j at)
  got j low = slice_get-get_or removed j at (subst (λ (m : ℕ). j < m) (sym shorter) low) ∙ ap Some (get_or-take n moved j at low)

  -- what stands there stood in the list
  pub was : (j a : ℕ) → slice_get removed j ≡ Some a → (m : ℕ) × (slice_get l m ≡ Some a)
  was j a e =
      let low : j < n = subst (λ (m : ℕ). j < m) shorter (slice_get_within removed j a e) in
      let here : get_or moved j at ≡ a = (let f : Some (get_or moved j at) ≡ Some a = sym (got j low) ∙ e in cc) in dite (ℕ_discrete j i)
      (λ same. (n, slice_get-get_or l n at (let m : ℕ = length l in let h : i < m = inside in let g : n < m = omega arith in g) ∙ ap Some (sym (get_or-set_same l i last at inside) ∙ (ap (λ (m : ℕ). get_or moved m at) (sym same) ∙ here))))
      (λ other. (j, slice_get-get_or l j at (let m : ℕ = length l in let g : j < m = omega arith in g) ∙ ap Some (sym (get_or-set_other l i j last at other) ∙ here)))

  pub was_among : (a : ℕ) → IsTrue (seen_by removed a) → IsTrue (seen_by l a)
  was_among a is = let t = seen_at removed a is in let w = was t.0 a t.1 in among l w.0 a w.1

  -- the places before the one that was taken out stay
  pub before : (j : ℕ) → j < i → slice_get removed j ≡ slice_get l j
  before j low =
      let m : ℕ = length l in
      let h : i < m = inside in
      let f : j < i = low in
      got j (let g : j < n = omega arith in g) ∙ (ap Some (get_or-set_other l i j last at (λ e. omega arith)) ∙ sym (slice_get-get_or l j at (let g : j < m = omega arith in g)))

  -- and what was in the list and isn't what was taken out is in it still
  pub still_among : (a : ℕ) → a ≢ at → IsTrue (seen_by l a) → IsTrue (seen_by removed a)
  still_among a other is =
      let t = seen_at l a is in
      let j : ℕ = t.0 in
      let m : ℕ = length l in
      let h : i < m = inside in
      let low : j < m = slice_get_within l t.0 a t.1 in
      let value : get_or l t.0 at ≡ a = get_or_from_slice_get l t.0 a at t.1 in
      let differs : t.0 ≢ i = (λ same. other (let e : Some a ≡ Some at = sym t.1 ∙ (ap (slice_get l) same ∙ there) in cc)) in dite (ℕ_discrete t.0 n)
      (λ same. among removed i a (got i (let d : j ≢ i = differs in let f : j ≡ n = same in let g : i < n = omega arith in g) ∙ ap Some (get_or-set_same l i last at inside ∙ (ap (λ (z : ℕ). get_or l z at) (sym same) ∙ value))))
      (λ apart. among removed t.0 a (got t.0 (let d : j ≢ n = apart in let g : j < n = omega arith in g) ∙ ap Some (get_or-set_other l i t.0 last at differs ∙ value)))
