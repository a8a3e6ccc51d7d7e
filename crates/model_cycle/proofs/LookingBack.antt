-- Decide and Lasts: each domain looks at its registrations from the last to the first, and takes those whose value is unmarked.
use Rattle.std.proofs.Common.{◌≡◌, ◌⊎◌, ⊎_elim, ℕ, suc, ◌<◌, ◌≤◌, arith, Bool, true, IsTrue, List, map, length, slice_get, remove, Some, ap, sym, ◌∙◌, subst}
use Rattle.std.proofs.lemmas.Option.{slice_get_within}
use Rattle.model_core.specs.declared.label.Label.{Label}
use Rattle.model_core.specs.Reach.{HoldsRoots}
use Rattle.model_cycle.specs.Shares.{at_domain}
use Rattle.model_cycle.proofs.Sharing.{last_or, at_cases}
use Rattle.model_cycle.proofs.DomainParts.{registration_cases, get-remove_above}

module _ {A : Type 0} (label : A → Label) (marked : Label → Bool) where
  -- what a domain has left to look at lies below the places that may still be taken, and what it has left behind is marked
  pub record LooksBack (lists : ℕ → List A) (low left : ℕ → ℕ) : Type 0 where
    pub below : (d : ℕ) → left d ≤ low d
    pub kept : (d p : ℕ) (f : A) → left d ≤ p → slice_get (lists d) p ≡ Some f → IsTrue (marked (label f))

  -- at the start nothing lies behind
  pub looks_start : (lists : ℕ → List A) (low left : ℕ → ℕ) → ((d : ℕ) → left d ≤ low d) → ((d : ℕ) → length (lists d) ≤ left d) → LooksBack lists low left
  looks_start lists low left below all = record {
    below = below;
    kept = λ d p f le e. let inside = slice_get_within (lists d) p f e in let most = all d in absurd (omega (arith, inside, le, most));
  }

  -- at the end everything does
  pub looks_end : (lists : ℕ → List A) (low left : ℕ → ℕ) → LooksBack lists low left → (d : ℕ) → left d ≡ 0 → HoldsRoots (map label (lists d)) marked
  looks_end lists low left i d none l h =
      let t = registration_cases label (lists d) l h in
      subst (λ z. IsTrue (marked z)) t.3 (i.kept d t.0 t.1 (omega (arith, none)) t.2)

  module _ (lists : ℕ → List A) (low left : ℕ → ℕ) (i : LooksBack lists low left) (d p : ℕ) (next_place : left d ≡ suc p) where
    pub place_below : p < low d
    place_below = let le = i.below d in omega (arith, le, next_place)

    -- the value of the next registration is marked
    pub looks_keeps : (f : A) → slice_get (lists d) p ≡ Some f → IsTrue (marked (label f)) → LooksBack lists low (at_domain left d p)
    looks_keeps f at is = record {
      below = λ k. ⊎_elim
          (λ t. let le = i.below d in subst (λ j. at_domain left d p k ≤ low j) (sym t.0) (let e = t.1 in omega (arith, e, le, next_place)))
          (λ t. let le = i.below k in let e = t.1 in omega (arith, e, le))
          (at_cases left d p k);
      kept = λ k j g le e. ⊎_elim
          (λ t.
          let here : slice_get (lists d) j ≡ Some g = subst (λ n. slice_get (lists n) j ≡ Some g) t.0 e in
          let le' : p ≤ j = subst (λ n. n ≤ j) t.1 le in ⊎_elim
          (λ above. i.kept d j g (subst (λ n. n ≤ j) (sym next_place) above) here)
          (λ same. let back : slice_get (lists d) p ≡ Some g = subst (λ n. slice_get (lists d) n ≡ Some g) (sym same) here in
          let is_it : f ≡ g = cc (at, back) in subst (λ z. IsTrue (marked (label z))) is_it is)
          (last_or p j (omega (arith, le'))))
          (λ t. i.kept k j g (subst (λ n. n ≤ j) t.1 le) e)
          (at_cases left d p k);
    }

    -- or the registration is taken from its list
    pub looks_takes : (after : ℕ → List A) (low_after : ℕ → ℕ)
        → ((k : ℕ) → ((k ≡ d) × (after k ≡ remove (lists d) p) × (low_after k ≡ p)) ⊎ ((k ≡ d → ⊥) × (after k ≡ lists k) × (low_after k ≡ low k)))
        → LooksBack after low_after (at_domain left d p)
    looks_takes after low_after cases = record {
      below = λ k. ⊎_elim
          (λ t. ⊎_elim
          (λ u. let at = t.2 in let now = u.1 in omega (arith, at, now))
          (λ u. absurd (u.0 t.0))
          (at_cases left d p k))
          (λ t. ⊎_elim
          (λ u. absurd (t.0 u.0))
          (λ u. let at = t.2 in let now = u.1 in let was = i.below k in omega (arith, at, now, was))
          (at_cases left d p k))
          (cases k);
      kept = λ k j g le e. ⊎_elim
          (λ t. ⊎_elim
          (λ u.
          let le' : p ≤ j = subst (λ n. n ≤ j) u.1 le in
          let now : slice_get (remove (lists d) p) j ≡ Some g = ap (λ xs. slice_get xs j) (sym t.1) ∙ e in
          i.kept d (suc j) g (omega (arith, le', next_place)) (sym (get-remove_above (lists d) p j le') ∙ now))
          (λ u. absurd (u.0 t.0))
          (at_cases left d p k))
          (λ t. ⊎_elim
          (λ u. absurd (t.0 u.0))
          (λ u. i.kept k j g (subst (λ n. n ≤ j) u.1 le) (ap (λ xs. slice_get xs j) (sym t.1) ∙ e))
          (at_cases left d p k))
          (cases k);
    }

-- who has arrived has nothing left to look at, and so it stays
module _ (arrived : ℕ → Bool) (left : ℕ → ℕ) (d : ℕ) (through : (j : ℕ) → IsTrue (arrived j) → left j ≡ 0) where
  pub through_looks : (p : ℕ) → left d ≡ suc p → (j : ℕ) → IsTrue (arrived j) → at_domain left d p j ≡ 0
  through_looks p place j h = ⊎_elim
      (λ t. absurd (let was : left d ≡ 0 = subst (λ z. left z ≡ 0) t.0 (through j h) in omega arith))
      (λ t. t.1 ∙ through j h)
      (at_cases left d p j)

  pub through_arrives : left d ≡ 0 → (j : ℕ) → IsTrue (at_domain arrived d true j) → left j ≡ 0
  through_arrives none j h = ⊎_elim
      (λ t. subst (λ z. left z ≡ 0) (sym t.0) none)
      (λ t. through j (subst (λ b. IsTrue b) t.1 h))
      (at_cases arrived d true j)
