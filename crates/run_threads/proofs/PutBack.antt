-- A trace is taken out of a list, the others are worked on, and it is put back.
use Rattle.std.proofs.Common.{◌≡◌, ◌≢◌, ◌∙◌, ℕ, zero, suc, ◌+◌, ◌<◌, ◌≤◌, List, [], ◌∷◌, ◌++◌, length, refl, sym, ap, subst, ⊎_elim, arith, length-append}
use Rattle.std.specs.Prelude.{slice_index_or}
use Rattle.std.specs.List.{SwappedAt}
use Rattle.std.proofs.lemmas.Bool.{cases_eq, cases_lt}
use Rattle.run_threads.specs.Taking.{IsTakenOut, IsPutBack}

abbrev pub at : {T : Type 0} → List T → ℕ → T → T
at xs k d = slice_index_or xs k d

at_end : {T : Type 0} (xs : List T) (r d : T) → at (xs ++ r ∷ []) (length xs) d ≡ r
at_end [] r d = refl
at_end (x ∷ xs) r d = at_end xs r d

at_front : {T : Type 0} (xs : List T) (r : T) (k : ℕ) (d : T) → k < length xs → at (xs ++ r ∷ []) k d ≡ at xs k d
at_front [] r k d few = absurd (omega arith)
at_front (x ∷ xs) r zero d few = refl
at_front (x ∷ xs) r (suc k) d few = at_front xs r k d (omega arith)

-- one that was pushed behind the others, and then swapped with the one at a place
pub pushed_back : {T : Type 0} (old pushed new : List T) (place last : ℕ) (r : T) → last ≡ length old → pushed ≡ old ++ r ∷ [] → length new ≡ length pushed → SwappedAt pushed new place last → IsPutBack old new place r
pushed_back {T} old pushed new place last r is items long swapped = record {
  len = long ∙ ap length items ∙ length-append old (r ∷ []);
  here = λ d. swapped.0 d ∙ ap (λ (n : ℕ). at pushed n d) is ∙ ap (λ (xs : List T). at xs (length old) d) items ∙ at_end old r d;
  last = λ d few. ap (λ (n : ℕ). at new n d) (sym is) ∙ swapped.1 d ∙ ap (λ (xs : List T). at xs place d) items ∙ at_front old r place d few;
  others = λ k d other few. swapped.2 k d other (λ same. let at_last : k ≡ last = same in absurd (omega (arith, at_last, is, few))) ∙ ap (λ (xs : List T). at xs k d) items ∙ at_front old r k d few;
}

below_last : (place k last len : ℕ) → last ≡ k → k ≢ place → place < len → last + 1 ≡ len → place < last
below_last place k last len is other inside whole = ⊎_elim (λ (below : place < last). below)
    (λ (past : last ≤ place). absurd (other (let same : k ≡ place = omega (arith, is, inside, whole, past) in same))) (cases_lt place last)

module _ {T : Type 0} (Q : T → T → Type 0) (xs ys zs ws : List T) (place : ℕ) (a b : T) (out : IsTakenOut xs ys place a) (back : IsPutBack zs ws place b)
    (same : length zs ≡ length ys) (inside : place < length xs) (worked : (k : ℕ) (d : T) → k < length zs → Q (at ys k d) (at zs k d)) (own : Q a b) where
  moved : (p q r s : T) → q ≡ p → s ≡ r → Q p r → Q q s
  moved p q r s x y t = subst (λ (u : T). Q u s) (sym x) (subst (λ (v : T). Q p v) (sym y) t)

  inner : (k : ℕ) (d : T) → k ≢ place → k < length zs → Q (at xs k d) (at ws k d)
  inner k d other few = moved (at ys k d) (at xs k d) (at zs k d) (at ws k d)
      (sym (out.others k d other (let f : k < length ys = omega (arith, few, same) in f))) (back.others k d other few) (worked k d few)

  outer : (d : T) → place < length zs → Q (at xs (length zs) d) (at ws (length zs) d)
  outer d few =
      let more : place < length ys = omega (arith, few, same) in
      moved (at ys place d) (at xs (length zs) d) (at zs place d) (at ws (length zs) d) (ap (λ (n : ℕ). at xs n d) same ∙ sym (out.last d more)) (back.last d few) (worked place d few)

  -- what holds of each other run, and of this one, holds of each
  pub all_kept : (k : ℕ) (d : T) → k < length xs → Q (at xs k d) (at ws k d)
  all_kept k d few = ⊎_elim
      (λ (is : k ≡ place). subst (λ (n : ℕ). Q (at xs n d) (at ws n d)) (sym is) (moved a (at xs place d) b (at ws place d) (out.taken d) (back.here d) own))
      (λ (other : k ≢ place). ⊎_elim
      (λ (below : k < length zs). inner k d other below)
      (λ (past : length zs ≤ k).
      let last : length zs ≡ k = omega (arith, out.len, same, few, past) in
      let room : place < length zs = below_last place k (length zs) (length xs) last other inside (omega (arith, out.len, same)) in
      subst (λ (n : ℕ). Q (at xs n d) (at ws n d)) last (outer d room))
      (cases_lt k (length zs)))
      (cases_eq k place)

  pub whole : length ws ≡ length xs
  whole = omega (arith, same, out.len, back.len)

  pub all_back : (k : ℕ) (d : T) → k < length ws → Q (at xs k d) (at ws k d)
  all_back k d few = all_kept k d (omega (arith, few, same, out.len, back.len))

-- what holds of each one of a list holds of those that are left, and of the one that was taken out
pub left_all : {T : Type 0} (P : T → Type 0) (xs ys : List T) (place : ℕ) (a : T) → IsTakenOut xs ys place a → ((k : ℕ) (d : T) → k < length xs → P (at xs k d))
    → (k : ℕ) (d : T) → k < length ys → P (at ys k d)
left_all {T} P xs ys place a out each k d few = ⊎_elim
    (λ (is : k ≡ place).
    let room : place < length ys = subst (λ (n : ℕ). n < length ys) is few in
    subst (λ (n : ℕ). P (at ys n d)) (sym is) (subst (λ (r : T). P r) (sym (out.last d room)) (each (length ys) d (omega (arith, out.len)))))
    (λ (other : k ≢ place). subst (λ (r : T). P r) (sym (out.others k d other few)) (each k d (omega (arith, few, out.len))))
    (cases_eq k place)

pub taken_here : {T : Type 0} (P : T → Type 0) (xs ys : List T) (place : ℕ) (a : T) → IsTakenOut xs ys place a → place < length xs → ((k : ℕ) (d : T) → k < length xs → P (at xs k d)) → P a
taken_here {T} P xs ys place a out inside each = subst (λ (r : T). P r) (out.taken a) (each place a inside)
