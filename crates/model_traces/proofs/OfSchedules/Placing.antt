-- All places of a list that pass a test: what is left without them, what stands at them, and keys emptied there.
use Rattle.std.proofs.Common.{◌≡◌, ◌≢◌, ◌<◌, ◌≤◌, ⊎_elim, ℕ, zero, suc, ◌+◌, Bool, true, false, cond, ◌||◌, List, [], ◌∷◌, ◌++◌, map, length, refl, sym, ap, ◌∙◌, arith, append-nil, None, Some}
use Rattle.std.specs.Prelude.{Option, filter, filter_map, remove, reverse, slice_get, slice_set}
use Rattle.std.specs.List.{cons_option, list_any, range_with_len}
use Rattle.std.proofs.lemmas.Bool.{cases_lt}
use Rattle.std.proofs.lemmas.List.{reverse-append}
use Rattle.std.proofs.lemmas.List.Elements.{filter_map-append}
use Rattle.model_core.specs.declared.label.Label.{Label}
use Rattle.model_core.specs.declared.state.Pending.{Pending}
use Rattle.model_core.specs.Entries.{at_places, is_some_and, wiped_keys, without_places}
use Rattle.model_traces.specs.Schedules.Scheduled.{places_where}
use Rattle.model_traces.proofs.OfSchedules.Queued.{dead_of, others_of}
use Rattle.model_traces.proofs.OfSchedules.Wiped.{all_emptied, is_gone_key}

-- a place that isn't the first of those from a on is one of those behind it
pub next_place : (a k : ℕ) → a ≤ k → k ≢ a → a + 1 ≤ k
next_place a k more other = ⊎_elim (λ (below : k < a + 1). absurd (other (omega (arith, more, below)))) (λ (past : a + 1 ≤ k). past) (cases_lt k (a + 1))

range-suc : (a n : ℕ) → range_with_len (suc a) n ≡ map suc (range_with_len a n)
range-suc a zero = refl
range-suc a (suc n) =
    let after : suc a + 1 ≡ suc (suc a) = omega arith in
    let before : a + 1 ≡ suc a = omega arith in
    ap (λ m. suc a ∷ range_with_len m n) after ∙ ap (λ ns. suc a ∷ ns) (range-suc (suc a) n) ∙ ap (λ m. suc a ∷ map suc (range_with_len m n)) (sym before)

filter-map : (test : ℕ → Bool) (f : ℕ → ℕ) (ns : List ℕ) → filter test (map f ns) ≡ map f (filter (λ n. test (f n)) ns)
filter-map test f [] = refl
filter-map test f (n ∷ ns) = go (test (f n)) (filter-map test f ns)
  where
    go : (b : Bool) → filter test (map f ns) ≡ map f (filter (λ m. test (f m)) ns) → cond b (f n ∷ filter test (map f ns)) (filter test (map f ns)) ≡ map f (cond b (n ∷ filter (λ m. test (f m)) ns) (filter (λ m. test (f m)) ns))
    go true rest = ap (λ ms. f n ∷ ms) rest
    go false rest = rest

module _ {A : Type 0} (test : A → Bool) where
  -- the places, from the first on
  abbrev pub places_of : List A → List ℕ
  places_of [] = []
  places_of (x ∷ xs) = cond (test x) (zero ∷ map suc (places_of xs)) (map suc (places_of xs))

  pub places_are : (xs : List A) → places_where test xs ≡ places_of xs
  places_are [] = refl
  places_are (x ∷ xs) =
      let later : filter (λ p. is_some_and test (slice_get (x ∷ xs) p)) (range_with_len 1 (length xs)) ≡ map suc (places_of xs) =
      ap (filter (λ p. is_some_and test (slice_get (x ∷ xs) p))) (range-suc 0 (length xs)) ∙ filter-map (λ p. is_some_and test (slice_get (x ∷ xs) p)) suc (range_with_len 0 (length xs)) ∙ ap (map suc) (places_are xs) in
      ap (λ ns. cond (test x) (zero ∷ ns) ns) later

remove-shifted : {A : Type 0} (x : A) (ps : List ℕ) (xs : List A) → without_places (map suc ps) (x ∷ xs) ≡ x ∷ without_places ps xs
remove-shifted x [] xs = refl
remove-shifted x (p ∷ ps) xs = ap (λ ys. remove ys (suc p)) (remove-shifted x ps xs)

at-shifted : {A : Type 0} (x : A) (ps : List ℕ) (xs : List A) → at_places (map suc ps) (x ∷ xs) ≡ at_places ps xs
at-shifted x [] xs = refl
at-shifted x (p ∷ ps) xs = ap (λ ys. cons_option (slice_get xs p) ys) (at-shifted x ps xs)

wiped-shifted : (k : Option Label) (ps : List ℕ) (ks : List (Option Label)) → wiped_keys (map suc ps) (k ∷ ks) ≡ k ∷ wiped_keys ps ks
wiped-shifted k [] ks = refl
wiped-shifted k (p ∷ ps) ks = ap (λ ls. slice_set ls (suc p) None) (wiped-shifted k ps ks)

module _ {A : Type 0} (to_pending : A → Pending) (dead : A → Bool) where
  without_of : (xs : List A) → without_places (places_of dead xs) xs ≡ others_of to_pending dead xs
  without_of [] = refl
  without_of (x ∷ xs) = go (dead x) (remove-shifted x (places_of dead xs) xs ∙ ap (λ ys. x ∷ ys) (without_of xs))
    where
      go : (b : Bool) → without_places (map suc (places_of dead xs)) (x ∷ xs) ≡ x ∷ others_of to_pending dead xs
          → without_places (cond b (zero ∷ map suc (places_of dead xs)) (map suc (places_of dead xs))) (x ∷ xs) ≡ cond b (others_of to_pending dead xs) (x ∷ others_of to_pending dead xs)
      go true rest = ap (λ ys. remove ys zero) rest
      go false rest = rest

  at_of : (xs : List A) → at_places (places_of dead xs) xs ≡ dead_of to_pending dead xs
  at_of [] = refl
  at_of (x ∷ xs) = go (dead x) (at-shifted x (places_of dead xs) xs ∙ at_of xs)
    where
      go : (b : Bool) → at_places (map suc (places_of dead xs)) (x ∷ xs) ≡ dead_of to_pending dead xs
          → at_places (cond b (zero ∷ map suc (places_of dead xs)) (map suc (places_of dead xs))) (x ∷ xs) ≡ cond b (x ∷ dead_of to_pending dead xs) (dead_of to_pending dead xs)
      go true rest = ap (λ ys. x ∷ ys) rest
      go false rest = rest

  reverse_of : (f : ℕ → Option A) (ps : List ℕ) → filter_map f (reverse ps) ≡ reverse (filter_map f ps)
  reverse_of f [] = refl
  reverse_of f (p ∷ ps) =
      ap (filter_map f) (reverse-append (p ∷ []) ps) ∙ filter_map-append f (reverse ps) (p ∷ []) ∙ ap (λ xs. xs ++ filter_map f (p ∷ [])) (reverse_of f ps) ∙ last (f p)
    where
      last : (o : Option A) → reverse (filter_map f ps) ++ cons_option o [] ≡ reverse (cons_option o (filter_map f ps))
      last None = append-nil (reverse (filter_map f ps))
      last (Some x) = sym (reverse-append (x ∷ []) (filter_map f ps))

  -- what is left without all that are dead
  pub all_without : (xs : List A) → without_places (places_where dead xs) xs ≡ others_of to_pending dead xs
  all_without xs = ap (λ ps. without_places ps xs) (places_are dead xs) ∙ without_of xs

  -- and all that are dead, the last first
  pub all_reversed : (xs : List A) → at_places (reverse (places_where dead xs)) xs ≡ reverse (dead_of to_pending dead xs)
  all_reversed xs = ap (λ ps. at_places (reverse ps) xs) (places_are dead xs) ∙ reverse_of (slice_get xs) (places_of dead xs) ∙ ap reverse (at_of xs)

  -- where there is no place none is dead
  pub none_dead : (xs : List A) → places_where dead xs ≡ [] → (others_of to_pending dead xs ≡ xs) × (dead_of to_pending dead xs ≡ [])
  none_dead xs e = (sym (all_without xs) ∙ ap (λ ps. without_places ps xs) e, sym (at_of xs) ∙ ap (λ ps. at_places ps xs) (sym (places_are dead xs) ∙ e))

-- whether there is one
abbrev pub some_of : {A : Type 0} → List A → Bool
some_of [] = false
some_of (x ∷ xs) = true

module _ (gone : Label → Bool) where
  wiped_of : (ks : List (Option Label)) → wiped_keys (places_of (is_gone_key gone) ks) ks ≡ all_emptied gone ks
  wiped_of [] = refl
  wiped_of (k ∷ ks) = go (is_gone_key gone k) (wiped-shifted k (places_of (is_gone_key gone) ks) ks ∙ ap (λ ls. k ∷ ls) (wiped_of ks))
    where
      go : (b : Bool) → wiped_keys (map suc (places_of (is_gone_key gone) ks)) (k ∷ ks) ≡ k ∷ all_emptied gone ks
          → wiped_keys (cond b (zero ∷ map suc (places_of (is_gone_key gone) ks)) (map suc (places_of (is_gone_key gone) ks))) (k ∷ ks) ≡ cond b None k ∷ all_emptied gone ks
      go true rest = ap (λ ls. slice_set ls zero None) rest
      go false rest = rest

  -- all keys that are gone emptied
  pub all_wiped_keys : (ks : List (Option Label)) → wiped_keys (places_where (is_gone_key gone) ks) ks ≡ all_emptied gone ks
  all_wiped_keys ks = ap (λ ps. wiped_keys ps ks) (places_are (is_gone_key gone) ks) ∙ wiped_of ks

  wiped_twice : (ks : List (Option Label)) → wiped_keys (places_of (is_gone_key gone) ks) (all_emptied gone ks) ≡ all_emptied gone ks
  wiped_twice [] = refl
  wiped_twice (k ∷ ks) = go (is_gone_key gone k) (wiped_twice ks)
    where
      go : (b : Bool) → wiped_keys (places_of (is_gone_key gone) ks) (all_emptied gone ks) ≡ all_emptied gone ks → wiped_keys (cond b (zero ∷ map suc (places_of (is_gone_key gone) ks)) (map suc (places_of (is_gone_key gone) ks))) (cond b None k ∷ all_emptied gone ks) ≡ cond b None k ∷ all_emptied gone ks
      go true later = ap (λ ls. slice_set ls zero None) (wiped-shifted None (places_of (is_gone_key gone) ks) (all_emptied gone ks) ∙ ap (λ ls. None ∷ ls) later)
      go false later = wiped-shifted k (places_of (is_gone_key gone) ks) (all_emptied gone ks) ∙ ap (λ ls. k ∷ ls) later

  -- once more changes nothing
  pub wiped_again : (ks : List (Option Label)) → wiped_keys (places_where (is_gone_key gone) ks) (all_emptied gone ks) ≡ all_emptied gone ks
  wiped_again ks = ap (λ ps. wiped_keys ps (all_emptied gone ks)) (places_are (is_gone_key gone) ks) ∙ wiped_twice ks

  -- there is a place where one is gone, and none where none is
  any_of : (ks : List (Option Label)) → list_any (is_gone_key gone) ks ≡ some_of (places_of (is_gone_key gone) ks)
  any_of [] = refl
  any_of (k ∷ ks) = go (is_gone_key gone k) (any_of ks ∙ mapped (places_of (is_gone_key gone) ks))
    where
      mapped : (ps : List ℕ) → some_of ps ≡ some_of (map suc ps)
      mapped [] = refl
      mapped (p ∷ ps) = refl

      go : (b : Bool) → list_any (is_gone_key gone) ks ≡ some_of (map suc (places_of (is_gone_key gone) ks))
          → (b || list_any (is_gone_key gone) ks) ≡ some_of (cond b (zero ∷ map suc (places_of (is_gone_key gone) ks)) (map suc (places_of (is_gone_key gone) ks)))
      go true rest = refl
      go false rest = rest

  pub any_gone : (ks : List (Option Label)) → list_any (is_gone_key gone) ks ≡ some_of (places_where (is_gone_key gone) ks)
  any_gone ks = any_of ks ∙ ap some_of (sym (places_are (is_gone_key gone) ks))
