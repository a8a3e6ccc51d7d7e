-- Keys in lists of bindings, chain by chain.
use Rattle.std.proofs.Common.{◌≡◌, ◌≢◌, ℕ, zero, suc, ◌+◌, ◌<◌, ◌%◌, Bool, true, false, not, cond, ◌&&◌, ◌||◌, eqb, eqb-true, eq-eqb, IsTrue, List, [], ◌∷◌, ◌++◌, length, get_or, flat_map, Some, None, refl, ap, sym, ◌∙◌, subst, arith}
use Rattle.model_core.specs.declared.label.Label.{Label}
use Rattle.model_core.specs.declared.graph.Value.{Value}
use Rattle.model_core.specs.Graph.{same_label, has_label}
use Rattle.model_core.specs.Commands.{is_full_value}
use Rattle.model_core.proofs.Graphs.GraphLemmas.{same_label-true, same_label_refl, same_label-false}
use Rattle.model_core.proofs.Reach.ReachLemmas.{or_left, or_right, and_left, and_right, and_both, is_false, not_false}
use Rattle.weak_laws.specs.Tables.Structures.{Binding, Cell, bucket_count, keys_of, without, datum_at, is_bucket}
use Rattle.weak_laws.specs.Tables.Thinning.{ThinnedBy}
use Rattle.weak_laws.proofs.OfTables.BindingLemmas.{without_append, thinned_append}

-- a key in two lists, one behind the other
pub datum_first : (k : Label) (a b : List Binding) → datum_at b k ≡ None → datum_at (a ++ b) k ≡ datum_at a k
datum_first k [] b none = none
datum_first k (x ∷ a) b none = ap (cond (same_label x.0 k) (Some x.1)) (datum_first k a b none)

pub datum_second : (k : Label) (a b : List Binding) → datum_at a k ≡ None → datum_at (a ++ b) k ≡ datum_at b k
datum_second k [] b none = refl
datum_second k (x ∷ a) b none = go (same_label x.0 k) (datum_second k a b) none
  where
    go : (c : Bool) → (datum_at a k ≡ None → datum_at (a ++ b) k ≡ datum_at b k) → cond c (Some x.1) (datum_at a k) ≡ None → cond c (Some x.1) (datum_at (a ++ b) k) ≡ datum_at b k
    go true rest e = cc
    go false rest e = rest e

pub datum_parts : (k : Label) (a b : List Binding) → datum_at (a ++ b) k ≡ None → (datum_at a k ≡ None) × (datum_at b k ≡ None)
datum_parts k [] b none = (refl, none)
datum_parts k (x ∷ a) b none = go (same_label x.0 k) (datum_parts k a b) none
  where
    go : (c : Bool) → (datum_at (a ++ b) k ≡ None → (datum_at a k ≡ None) × (datum_at b k ≡ None)) → cond c (Some x.1) (datum_at (a ++ b) k) ≡ None
        → (cond c (Some x.1) (datum_at a k) ≡ None) × (datum_at b k ≡ None)
    go true rest e = cc
    go false rest e = rest e

-- a key that isn't bound is no key of the list
pub unbound_key : (k : Label) (bs : List Binding) → datum_at bs k ≡ None → has_label (keys_of bs) k ≡ false
unbound_key k [] none = refl
unbound_key k (x ∷ bs) none = go (same_label x.0 k) (unbound_key k bs) none
  where
    go : (c : Bool) → (datum_at bs k ≡ None → has_label (keys_of bs) k ≡ false) → cond c (Some x.1) (datum_at bs k) ≡ None → (c || has_label (keys_of bs) k) ≡ false
    go true rest e = cc
    go false rest e = rest e

pub key_unbound : (k : Label) (bs : List Binding) → has_label (keys_of bs) k ≡ false → datum_at bs k ≡ None
key_unbound k [] none = refl
key_unbound k (x ∷ bs) none = go (same_label x.0 k) (key_unbound k bs) none
  where
    go : (c : Bool) → (has_label (keys_of bs) k ≡ false → datum_at bs k ≡ None) → (c || has_label (keys_of bs) k) ≡ false → cond c (Some x.1) (datum_at bs k) ≡ None
    go true rest e = cc
    go false rest e = rest e

-- without a key that isn't bound nothing is missing, and without one it isn't bound
pub without_unbound : (k : Label) (bs : List Binding) → datum_at bs k ≡ None → without k bs ≡ bs
without_unbound k [] none = refl
without_unbound k (x ∷ bs) none = go (same_label x.0 k) (without_unbound k bs) none
  where
    go : (c : Bool) → (datum_at bs k ≡ None → without k bs ≡ bs) → cond c (Some x.1) (datum_at bs k) ≡ None → cond c (without k bs) (x ∷ without k bs) ≡ x ∷ bs
    go true rest e = cc
    go false rest e = ap (λ (l : List Binding). x ∷ l) (rest e)

-- the parts of a bucket's test
pub record BucketParts (i : ℕ) (b : Binding) (bs : List Binding) : Type 0 where
  pub placed : b.0.serial % bucket_count ≡ i
  pub full : IsTrue (is_full_value b.1)
  pub once : has_label (keys_of bs) b.0 ≡ false
  pub rest : IsTrue (is_bucket i bs)

pub bucket_parts : (i : ℕ) (b : Binding) (bs : List Binding) → IsTrue (is_bucket i (b ∷ bs)) → BucketParts i b bs
bucket_parts i b bs h =
    let placed = and_left (eqb (b.0.serial % bucket_count) i) (is_full_value b.1 && (not (has_label (keys_of bs) b.0) && is_bucket i bs)) h in
    let more = and_right (eqb (b.0.serial % bucket_count) i) (is_full_value b.1 && (not (has_label (keys_of bs) b.0) && is_bucket i bs)) h in
    let full = and_left (is_full_value b.1) (not (has_label (keys_of bs) b.0) && is_bucket i bs) more in
    let last = and_right (is_full_value b.1) (not (has_label (keys_of bs) b.0) && is_bucket i bs) more in
    record {
      placed = eqb-true (b.0.serial % bucket_count) i placed;
      full = full;
      once = is_false (has_label (keys_of bs) b.0) (and_left (not (has_label (keys_of bs) b.0)) (is_bucket i bs) last);
      rest = and_right (not (has_label (keys_of bs) b.0)) (is_bucket i bs) last;
    }

pub bucket_whole : (i : ℕ) (b : Binding) (bs : List Binding) → BucketParts i b bs → IsTrue (is_bucket i (b ∷ bs))
bucket_whole i b bs p = and_both _ _ (eq-eqb (b.0.serial % bucket_count) i p.placed) (and_both _ _ p.full (and_both _ _ (not_false _ p.once) p.rest))

-- a key of another bucket isn't bound
pub other_bucket : (i : ℕ) (k : Label) (bs : List Binding) → IsTrue (is_bucket i bs) → k.serial % bucket_count ≢ i → datum_at bs k ≡ None
other_bucket i k [] h other = refl
other_bucket i k (x ∷ bs) h other = go (same_label x.0 k) refl (other_bucket i k bs (bucket_parts i x bs h).rest other)
  where
    go : (c : Bool) → same_label x.0 k ≡ c → datum_at bs k ≡ None → cond c (Some x.1) (datum_at bs k) ≡ None
    go true e later = absurd (other (ap (λ (l : Label). l.serial % bucket_count) (sym (same_label-true x.0 k e)) ∙ (bucket_parts i x bs h).placed))
    go false e later = later

-- what is bound behind a key isn't that key
pub bound_once : (i : ℕ) (k : Label) (v : Value) (a b : List Binding) → IsTrue (is_bucket i (a ++ (k, v) ∷ b)) → (datum_at a k ≡ None) × (datum_at b k ≡ None)
bound_once i k v [] b h = (refl, key_unbound k b (bucket_parts i (k, v) b h).once)
bound_once i k v (x ∷ a) b h =
    let p = bucket_parts i x (a ++ (k, v) ∷ b) h in
    let rest = bound_once i k v a b p.rest in
    (go (same_label x.0 k) refl p.once rest.0, rest.1)
  where
    there : (a : List Binding) → IsTrue (has_label (keys_of (a ++ (k, v) ∷ b)) k)
    there [] = or_left (same_label k k) _ (same_label_refl k)
    there (y ∷ a) = or_right (same_label y.0 k) _ (there a)

    go : (c : Bool) → same_label x.0 k ≡ c → has_label (keys_of (a ++ (k, v) ∷ b)) x.0 ≡ false → datum_at a k ≡ None → cond c (Some x.1) (datum_at a k) ≡ None
    go true e once none = absurd (
        let is : x.0 ≡ k = same_label-true x.0 k e in
        let clash : true ≡ false = sym (there a) ∙ subst (λ (l : Label). has_label (keys_of (a ++ (k, v) ∷ b)) l ≡ false) is once in cc)
    go false e once none = none

-- one more binding of a new key in a bucket
keys_append : (a b : List Binding) → keys_of (a ++ b) ≡ keys_of a ++ keys_of b
keys_append [] b = refl
keys_append (x ∷ a) b = ap (λ (l : List Label). x.0 ∷ l) (keys_append a b)

lacks_more : (k l : Label) (v : Value) (a b : List Binding) → has_label (keys_of (a ++ b)) l ≡ false → (k ≡ l → ⊥) → has_label (keys_of (a ++ (k, v) ∷ b)) l ≡ false
lacks_more k l v [] b none other = rw (same_label-false k l other) none
lacks_more k l v (x ∷ a) b none other = go (same_label x.0 l) none (λ later. lacks_more k l v a b later other)
  where
    go : (c : Bool) → (c || has_label (keys_of (a ++ b)) l) ≡ false → (has_label (keys_of (a ++ b)) l ≡ false → has_label (keys_of (a ++ (k, v) ∷ b)) l ≡ false) → (c || has_label (keys_of (a ++ (k, v) ∷ b)) l) ≡ false
    go true e rest = cc
    go false e rest = rest e

pub bucket_insert : (i : ℕ) (k : Label) (v : Value) (a b : List Binding) → IsTrue (is_bucket i (a ++ b)) → k.serial % bucket_count ≡ i → IsTrue (is_full_value v) → datum_at (a ++ b) k ≡ None → IsTrue (is_bucket i (a ++ (k, v) ∷ b))
bucket_insert i k v [] b h placed full none = bucket_whole i (k, v) b (record { placed = placed; full = full; once = unbound_key k b none; rest = h })
bucket_insert i k v (x ∷ a) b h placed full none =
    let p = bucket_parts i x (a ++ b) h in
    let parts = datum_parts k (x ∷ []) (a ++ b) none in
    bucket_whole i x (a ++ (k, v) ∷ b) (record {
      placed = p.placed;
      full = p.full;
      once = lacks_more k x.0 v a b p.once (λ same. differs same parts.0);
      rest = bucket_insert i k v a b p.rest placed full parts.1;
    })
  where
    differs : k ≡ x.0 → cond (same_label x.0 k) (Some x.1) None ≡ None → ⊥
    differs same e = let yes : same_label x.0 k ≡ true = subst (λ (l : Label). same_label l k ≡ true) same (same_label_refl k) in let clash : Some x.1 ≡ None = sym (ap (λ c. cond c (Some x.1) None) yes) ∙ e in cc

-- a key in the chains of a table: that of its bucket decides
module _ (f : List Cell → List Binding) (k : Label) where
  none_bound : (o : ℕ) (css : List (List Cell)) → ((t : ℕ) → t < length css → IsTrue (is_bucket (o + t) (f (get_or css t [])))) → ((t : ℕ) → k.serial % bucket_count ≢ o + t) → datum_at (flat_map f css) k ≡ None
  none_bound o [] each other = refl
  none_bound o (cs ∷ css) each other =
      datum_second k (f cs) (flat_map f css) (other_bucket (o + 0) k (f cs) (each zero (omega arith)) (other zero))
      ∙ none_bound (o + 1) css (λ t below. let same : o + suc t ≡ o + 1 + t = omega arith in subst (λ n. IsTrue (is_bucket n (f (get_or css t [])))) same (each (suc t) (omega arith)))
      (λ t e. let same : o + 1 + t ≡ o + suc t = omega arith in other (suc t) (e ∙ same))

  pub datum_of_bucket : (o : ℕ) (css : List (List Cell)) (i : ℕ) → i < length css → k.serial % bucket_count ≡ o + i → ((t : ℕ) → t < length css → IsTrue (is_bucket (o + t) (f (get_or css t []))))
      → datum_at (flat_map f css) k ≡ datum_at (f (get_or css i [])) k
  datum_of_bucket o [] i below here each = absurd (omega arith)
  datum_of_bucket o (cs ∷ css) zero below here each =
      datum_first k (f cs) (flat_map f css) (none_bound (o + 1) css
      (λ t inside. let same : o + suc t ≡ o + 1 + t = omega arith in subst (λ n. IsTrue (is_bucket n (f (get_or css t [])))) same (each (suc t) (omega arith)))
      (λ t e. absurd (omega (arith, here, e))))
  datum_of_bucket o (cs ∷ css) (suc i) below here each =
      datum_second k (f cs) (flat_map f css) (other_bucket (o + 0) k (f cs) (each zero (omega arith)) (λ e. absurd (omega (arith, here, e))))
      ∙ datum_of_bucket (o + 1) css i (omega arith) (let same : o + suc i ≡ o + 1 + i = omega arith in here ∙ same)
      (λ t inside. let same : o + suc t ≡ o + 1 + t = omega arith in subst (λ n. IsTrue (is_bucket n (f (get_or css t [])))) same (each (suc t) (omega arith)))

-- without a key the chains of a table, one by one
pub without_flat : (P : Label → Type 0) (k : Label) (f g : List Cell → List Binding) (css : List (List Cell))
    → ((i : ℕ) → i < length css → ThinnedBy P (without k (f (get_or css i []))) (without k (g (get_or css i [])))) → ThinnedBy P (without k (flat_map f css)) (without k (flat_map g css))
without_flat P k f g [] each = refl
without_flat P k f g (cs ∷ css) each =
    (λ (a b : List Binding) (x : without k (f cs ++ flat_map f css) ≡ a) (y : without k (g cs ++ flat_map g css) ≡ b) (t : ThinnedBy P a b). subst (λ (l : List Binding). ThinnedBy P l (without k (g cs ++ flat_map g css))) (sym x) (subst (λ (l : List Binding). ThinnedBy P a l) (sym y) t))
    _ _ (without_append k (f cs) (flat_map f css)) (without_append k (g cs) (flat_map g css))
    (thinned_append P (without k (f cs)) (without k (g cs)) (without k (flat_map f css)) (without k (flat_map g css)) (each zero (omega arith)) (without_flat P k f g css (λ i h. each (suc i) (omega arith))))
