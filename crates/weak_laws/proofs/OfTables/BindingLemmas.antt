-- Lists of bindings: some pairs are taken, and others stay.
use Rattle.std.proofs.Common.{◌≡◌, inl, inr, ⊎_elim, ℕ, zero, suc, ◌<◌, ◌%◌, Bool, true, false, not, cond, ◌&&◌, eqb, IsTrue, List, [], ◌∷◌, ◌++◌, length, get_or, flat_map, Some, refl, ap, sym, ◌∙◌, subst, arith}
use Rattle.model_core.specs.declared.label.Label.{Label}
use Rattle.model_core.specs.Graph.{same_label, has_label}
use Rattle.model_core.specs.Commands.{is_full_value}
use Rattle.model_core.proofs.Graphs.GraphLemmas.{same_label-true}
use Rattle.model_core.proofs.Reach.ReachLemmas.{or_cases, or_left, or_right, and_left, and_right, and_both, is_false, not_false}
use Rattle.weak_laws.specs.Tables.Structures.{Binding, Cell, bucket_count, keys_of, without, datum_at, is_bucket}
use Rattle.weak_laws.specs.Tables.Thinning.{ThinnedBy}

module _ (P : Label → Type 0) where
  pub thinned_same : (bs : List Binding) → ThinnedBy P bs bs
  thinned_same [] = refl
  thinned_same (b ∷ bs) = inl (bs, refl, thinned_same bs)

  pub thinned_append : (a a' b b' : List Binding) → ThinnedBy P a a' → ThinnedBy P b b' → ThinnedBy P (a ++ b) (a' ++ b')
  thinned_append [] a' b b' t u = subst (λ (x : List Binding). ThinnedBy P b (x ++ b')) (sym t) u
  thinned_append (x ∷ a) a' b b' (inl (rest, is, t)) u =
      inl (rest ++ b', ap (λ (l : List Binding). l ++ b') is, thinned_append a rest b b' t u)
  thinned_append (x ∷ a) a' b b' (inr (gone, t)) u = inr (gone, thinned_append a a' b b' t u)

  -- a key that is left was there
  pub thinned_keys : (a b : List Binding) (k : Label) → ThinnedBy P a b → IsTrue (has_label (keys_of b) k) → IsTrue (has_label (keys_of a) k)
  thinned_keys [] b k t h = subst (λ (x : List Binding). IsTrue (has_label (keys_of x) k)) t h
  thinned_keys (x ∷ a) b k (inl (rest, is, t)) h =
      ⊎_elim (λ here. or_left (same_label x.0 k) (has_label (keys_of a) k) here)
      (λ later. or_right (same_label x.0 k) (has_label (keys_of a) k) (thinned_keys a rest k t later))
      (or_cases (same_label x.0 k) (has_label (keys_of rest) k) (subst (λ (l : List Binding). IsTrue (has_label (keys_of l) k)) is h))
  thinned_keys (x ∷ a) b k (inr (gone, t)) h = or_right (same_label x.0 k) (has_label (keys_of a) k) (thinned_keys a b k t h)

  none_left : (a b : List Binding) (k : Label) → ThinnedBy P a b → has_label (keys_of a) k ≡ false → has_label (keys_of b) k ≡ false
  none_left a b k t none = go (has_label (keys_of b) k) refl
    where
      go : (x : Bool) → has_label (keys_of b) k ≡ x → x ≡ false
      go true e = absurd (let there = thinned_keys a b k t e in let clash : true ≡ false = sym there ∙ none in cc)
      go false e = refl

  -- what may be a bucket's bindings may still be
  pub thinned_bucket : (i : ℕ) (a b : List Binding) → ThinnedBy P a b → IsTrue (is_bucket i a) → IsTrue (is_bucket i b)
  thinned_bucket i [] b t h = subst (λ (x : List Binding). IsTrue (is_bucket i x)) (sym t) refl
  thinned_bucket i (x ∷ a) b (inl (rest, is, t)) h =
      let placed = and_left (eqb (x.0.serial % bucket_count) i) (is_full_value x.1 && (not (has_label (keys_of a) x.0) && is_bucket i a)) h in
      let more = and_right (eqb (x.0.serial % bucket_count) i) (is_full_value x.1 && (not (has_label (keys_of a) x.0) && is_bucket i a)) h in
      let full = and_left (is_full_value x.1) (not (has_label (keys_of a) x.0) && is_bucket i a) more in
      let last = and_right (is_full_value x.1) (not (has_label (keys_of a) x.0) && is_bucket i a) more in
      let new : has_label (keys_of rest) x.0 ≡ false = none_left a rest x.0 t (is_false (has_label (keys_of a) x.0) (and_left (not (has_label (keys_of a) x.0)) (is_bucket i a) last)) in
      let later : IsTrue (is_bucket i rest) = thinned_bucket i a rest t (and_right (not (has_label (keys_of a) x.0)) (is_bucket i a) last) in
      subst (λ (l : List Binding). IsTrue (is_bucket i l)) (sym is) (and_both _ _ placed (and_both _ _ full (and_both _ _ (not_false _ new) later)))
  thinned_bucket i (x ∷ a) b (inr (gone, t)) h =
      let more = and_right (eqb (x.0.serial % bucket_count) i) (is_full_value x.1 && (not (has_label (keys_of a) x.0) && is_bucket i a)) h in
      let last = and_right (is_full_value x.1) (not (has_label (keys_of a) x.0) && is_bucket i a) more in
      thinned_bucket i a b t (and_right (not (has_label (keys_of a) x.0)) (is_bucket i a) last)

  -- without one key the same are taken from the rest
  pub thinned_without : (k : Label) (a b : List Binding) → ThinnedBy P a b → ThinnedBy P (without k a) (without k b)
  thinned_without k [] b t = ap (without k) t
  thinned_without k (x ∷ a) b (inl (rest, is, t)) =
      subst (λ (l : List Binding). ThinnedBy P (without k (x ∷ a)) (without k l)) (sym is) (go (same_label x.0 k) (thinned_without k a rest t))
    where
      go : (c : Bool) → ThinnedBy P (without k a) (without k rest) → ThinnedBy P (cond c (without k a) (x ∷ without k a)) (cond c (without k rest) (x ∷ without k rest))
      go true u = u
      go false u = inl (without k rest, refl, u)
  thinned_without k (x ∷ a) b (inr (gone, t)) = go (same_label x.0 k) (thinned_without k a b t)
    where
      go : (c : Bool) → ThinnedBy P (without k a) (without k b) → ThinnedBy P (cond c (without k a) (x ∷ without k a)) (without k b)
      go true u = u
      go false u = inr (gone, u)

  -- a key that may not be taken is bound to the same datum
  pub thinned_datum : (k : Label) → (P k → ⊥) → (a b : List Binding) → ThinnedBy P a b → datum_at b k ≡ datum_at a k
  thinned_datum k stays [] b t = ap (λ (l : List Binding). datum_at l k) t
  thinned_datum k stays (x ∷ a) b (inl (rest, is, t)) =
      ap (λ (l : List Binding). datum_at l k) is ∙ ap (cond (same_label x.0 k) (Some x.1)) (thinned_datum k stays a rest t)
  thinned_datum k stays (x ∷ a) b (inr (gone, t)) = go (same_label x.0 k) refl (thinned_datum k stays a b t)
    where
      go : (c : Bool) → same_label x.0 k ≡ c → datum_at b k ≡ datum_at a k → datum_at b k ≡ cond c (Some x.1) (datum_at a k)
      go true e later = absurd (stays (subst P (same_label-true x.0 k e) gone))
      go false e later = later

-- more may be taken under a weaker condition
pub thinned_more : (P Q : Label → Type 0) → ((k : Label) → P k → Q k) → (a b : List Binding) → ThinnedBy P a b → ThinnedBy Q a b
thinned_more P Q more [] b t = t
thinned_more P Q more (x ∷ a) b (inl (rest, is, t)) = inl (rest, is, thinned_more P Q more a rest t)
thinned_more P Q more (x ∷ a) b (inr (gone, t)) = inr (more x.0 gone, thinned_more P Q more a b t)

-- what is taken in two steps
pub thinned_twice : (P : Label → Type 0) (a b c : List Binding) → ThinnedBy P a b → ThinnedBy P b c → ThinnedBy P a c
thinned_twice P [] b c t u = subst (λ (l : List Binding). ThinnedBy P l c) t u
thinned_twice P (x ∷ a) b c (inl (rest, is, t)) u = go (subst (λ (l : List Binding). ThinnedBy P l c) is u) (λ more v. thinned_twice P a rest more t v)
  where
    go : ThinnedBy P (x ∷ rest) c → ((more : List Binding) → ThinnedBy P rest more → ThinnedBy P a more) → ThinnedBy P (x ∷ a) c
    go (inl (more, here, v)) later = inl (more, here, later more v)
    go (inr (gone, v)) later = inr (gone, later c v)
thinned_twice P (x ∷ a) b c (inr (gone, t)) u = inr (gone, thinned_twice P a b c t u)

-- the bindings of several chains, one by one
pub thinned_flat : (P : Label → Type 0) (f g : List Cell → List Binding) (css : List (List Cell))
    → ((i : ℕ) → i < length css → ThinnedBy P (f (get_or css i [])) (g (get_or css i []))) → ThinnedBy P (flat_map f css) (flat_map g css)
thinned_flat P f g [] each = refl
thinned_flat P f g (cs ∷ css) each =
    thinned_append P (f cs) (g cs) (flat_map f css) (flat_map g css) (each zero (omega arith)) (thinned_flat P f g css (λ i h. each (suc i) (omega arith)))

pub without_append : (k : Label) (a b : List Binding) → without k (a ++ b) ≡ without k a ++ without k b
without_append k [] b = refl
without_append k (x ∷ a) b = go (same_label x.0 k) (without_append k a b)
  where
    go : (c : Bool) → without k (a ++ b) ≡ without k a ++ without k b → cond c (without k (a ++ b)) (x ∷ without k (a ++ b)) ≡ cond c (without k a) (x ∷ without k a) ++ without k b
    go true e = e
    go false e = ap (λ (l : List Binding). x ∷ l) e
