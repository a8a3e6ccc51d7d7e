-- The owned pools are few: each holds a kept block, or has held one, or was just drawn.
use Rattle.std.proofs.lemmas.Bool.{cases_eq}
use Rattle.std.proofs.Common.{◌≡◌, inl, inr, ⊎_elim, ℕ, zero, suc, ◌+◌, ◌*◌, ◌<◌, ◌≤◌, arith, Bool, true, false, cond, not, IsTrue, List, [], ◌∷◌, ◌++◌, map, length, length-append, Option, Some, None, refl, ap, sym, ◌∙◌, subst, eqb, eq-eqb, eqb-true}
use Rattle.model_core.specs.declared.label.Label.{Label}
use Rattle.model_core.specs.Graph.{same_label, has_label, has_no_repeats}
use Rattle.model_core.proofs.Reach.LabelListLemmas.{length_within}
use Rattle.model_core.proofs.Reach.ReachLemmas.{never_not, or_cases, or_left, or_right, and_both, has-append_left, has-append_right}
use Rattle.model_core.proofs.Graphs.GraphLemmas.{same_label-false, same_label-true, same_label_refl}
use Rattle.model_cycle.specs.Shares.{at_domain}
use Rattle.model_cycle.specs.Fullness.{HoldsKept, AllHoldKept, IsNone, Differ}
use Rattle.model_cycle.specs.Pools.{PoolsLaw, has_pool, without_pool, with_pool, InPools, AllHaveOwner}
use Rattle.model_cycle.proofs.Sharing.{some_same, last_or, at_cases}
use Rattle.model_cycle.proofs.Tracing.{never}
use Rattle.model_cycle.proofs.Keeping.{few_pools as few_holding}

pub pools_start : (n classes : ℕ) (kept : List Label) (pool_of : Label → Option ℕ) (owner : ℕ → Option ℕ) → ((p d : ℕ) → owner p ≡ Some d → (d < n) × HoldsKept kept pool_of p)
    → InPools n classes kept pool_of owner (λ d. [])
pools_start n classes kept pool_of owner all = record { few = λ d. omega arith; inside = λ p d at. (all p d at).0; holds = λ p d at. inr (all p d at).1 }

-- the pools without one
without_length : (p : ℕ) (ps : List ℕ) → length (without_pool p ps) ≤ length ps
without_length p [] = omega arith
without_length p (q ∷ ps) = go (eqb q p) (without_length p ps)
  where
    go : (b : Bool) → length (without_pool p ps) ≤ length ps → length (cond b (without_pool p ps) (q ∷ without_pool p ps)) ≤ suc (length ps)
    go true rest = omega arith
    go false rest = omega arith

without_others : (p r : ℕ) (ps : List ℕ) → (r ≡ p → ⊥) → IsTrue (has_pool ps r) → IsTrue (has_pool (without_pool p ps) r)
without_others p r [] other h = h
without_others p r (q ∷ ps) other h = go (eqb q p) refl (without_others p r ps other)
  where
    go : (b : Bool) → eqb q p ≡ b → (IsTrue (has_pool ps r) → IsTrue (has_pool (without_pool p ps) r)) → IsTrue (has_pool (cond b (without_pool p ps) (q ∷ without_pool p ps)) r)
    go true e rest = ⊎_elim
        (λ here. absurd (other (sym (eqb-true q r here) ∙ eqb-true q p e)))
        (λ later. rest later)
        (or_cases (eqb q r) (has_pool ps r) h)
    go false e rest = ⊎_elim
        (λ here. or_left (eqb q r) (has_pool (without_pool p ps) r) here)
        (λ later. or_right (eqb q r) (has_pool (without_pool p ps) r) (rest later))
        (or_cases (eqb q r) (has_pool ps r) h)

-- pools as labels, so that lists of them can be compared
abbrev pub as_label : ℕ → Label
as_label p = record { domain = 0; serial = p }

as_label_same : (p q : ℕ) → as_label p ≡ as_label q → p ≡ q
as_label_same p q e = ap (λ (l : Label). l.serial) e

has_as_label : (ps : List ℕ) (p : ℕ) → IsTrue (has_pool ps p) → IsTrue (has_label (map as_label ps) (as_label p))
has_as_label [] p h = cc
has_as_label (q ∷ ps) p h = ⊎_elim
    (λ here. or_left (same_label (as_label q) (as_label p)) (has_label (map as_label ps) (as_label p))
    (subst (λ z. IsTrue (same_label (as_label q) (as_label z))) (eqb-true q p here) (same_label_refl (as_label q))))
    (λ later. or_right (same_label (as_label q) (as_label p)) (has_label (map as_label ps) (as_label p)) (has_as_label ps p later))
    (or_cases (eqb q p) (has_pool ps p) h)

length-map_label : (ps : List ℕ) → length (map as_label ps) ≡ length ps
length-map_label [] = refl
length-map_label (p ∷ ps) = ap suc (length-map_label ps)

not_among : (p : ℕ) (ps : List ℕ) → IsNone p ps → IsTrue (has_label (map as_label ps) (as_label p)) → ⊥
not_among p [] none h = let clash : false ≡ true = h in cc
not_among p (q ∷ ps) none h = ⊎_elim
    (λ here. none.0 (sym (as_label_same q p (same_label-true (as_label q) (as_label p) here))))
    (λ later. not_among p ps none.1 later)
    (or_cases (same_label (as_label q) (as_label p)) (has_label (map as_label ps) (as_label p)) h)

once_as_labels : (ps : List ℕ) → Differ ps → IsTrue (has_no_repeats (map as_label ps))
once_as_labels [] differ = refl
once_as_labels (p ∷ ps) differ = and_both (not (has_label (map as_label ps) (as_label p))) (has_no_repeats (map as_label ps))
    (never_not (has_label (map as_label ps) (as_label p)) (not_among p ps differ.0))
    (once_as_labels ps differ.1)

-- the drawn pools of the first domains
all_drawn : (ℕ → List ℕ) → ℕ → List Label
all_drawn drawn zero = []
all_drawn drawn (suc n) = all_drawn drawn n ++ map as_label (drawn n)

all_drawn_has : (drawn : ℕ → List ℕ) (n d p : ℕ) → d < n → IsTrue (has_pool (drawn d) p) → IsTrue (has_label (all_drawn drawn n) (as_label p))
unfolding all_drawn
all_drawn_has drawn zero d p lt h = absurd (omega arith)
all_drawn_has drawn (suc n) d p lt h = ⊎_elim
    (λ less. has-append_left (all_drawn drawn n) (map as_label (drawn n)) (as_label p) (all_drawn_has drawn n d p less h))
    (λ same. has-append_right (all_drawn drawn n) (map as_label (drawn n)) (as_label p) (has_as_label (drawn n) p (subst (λ z. IsTrue (has_pool (drawn z) p)) same h)))
    (last_or d n lt)

all_drawn_length : (drawn : ℕ → List ℕ) (classes n : ℕ) → ((d : ℕ) → length (drawn d) ≤ classes) → length (all_drawn drawn n) ≤ n * classes
unfolding all_drawn
all_drawn_length drawn classes zero few = omega arith
all_drawn_length drawn classes (suc n) few =
    let rest = all_drawn_length drawn classes n few in
    let here = few n in
    let both = length-append (all_drawn drawn n) (map as_label (drawn n)) in
    let same = length-map_label (drawn n) in
    let product : suc n * classes ≡ n * classes + classes = suc_mul n classes in
    omega (arith, rest, here, both, same, product)
  where
    suc_mul : (a b : ℕ) → suc a * b ≡ a * b + b
    suc_mul a b = omega arith

-- pools that are drawn, and pools that hold a kept block
record Split (kept : List Label) (pool_of : Label → Option ℕ) (drawn : ℕ → List ℕ) (n : ℕ) (pools : List ℕ) : Type 0 where
  fresh : List ℕ
  holding : List ℕ
  count : length pools ≡ length fresh + length holding
  fresh_differ : Differ fresh
  holding_differ : Differ holding
  fresh_drawn : (p : ℕ) → IsTrue (has_label (map as_label fresh) (as_label p)) → IsTrue (has_label (all_drawn drawn n) (as_label p))
  holding_kept : AllHoldKept kept pool_of holding
  fresh_none : (p : ℕ) → IsNone p pools → IsNone p fresh
  holding_none : (p : ℕ) → IsNone p pools → IsNone p holding

module _ (n classes : ℕ) (kept : List Label) (pool_of : Label → Option ℕ) (owner : ℕ → Option ℕ) (drawn : ℕ → List ℕ) (i : InPools n classes kept pool_of owner drawn) where
  -- a domain draws a pool
  pub pools_draws : (d p : ℕ) → d < n → length (drawn d) < classes → InPools n classes kept pool_of (at_domain owner p (Some d)) (at_domain drawn d (p ∷ drawn d))
  pools_draws d p lt room = record {
    few = λ k. ⊎_elim
        (λ t. let more : length (at_domain drawn d (p ∷ drawn d) k) ≡ suc (length (drawn d)) = ap length t.1 in omega (arith, more, room))
        (λ t. let was : length (at_domain drawn d (p ∷ drawn d) k) ≡ length (drawn k) = ap length t.1 in let le = i.few k in omega (arith, was, le))
        (at_cases drawn d (p ∷ drawn d) k);
    inside = λ q k at. ⊎_elim
        (λ t. let same : d ≡ k = some_same d k (sym t.1 ∙ at) in subst (λ z. z < n) same lt)
        (λ t. i.inside q k (sym t.1 ∙ at))
        (at_cases owner p (Some d) q);
    holds = λ q k at. ⊎_elim
        (λ t. let same : d ≡ k = some_same d k (sym t.1 ∙ at) in inl (here q k t.0 same))
        (λ t. ⊎_elim (λ fresh. inl (later q k fresh)) (λ kept_one. inr kept_one) (i.holds q k (sym t.1 ∙ at)))
        (at_cases owner p (Some d) q);
  }
    where
      here : (q k : ℕ) → q ≡ p → d ≡ k → IsTrue (has_pool (at_domain drawn d (p ∷ drawn d) k) q)
      here q k place number = ⊎_elim
          (λ t. subst (λ z. IsTrue (has_pool z q)) (sym t.1) (or_left (eqb p q) (has_pool (drawn d) q) (eq-eqb p q (sym place))))
          (λ t. absurd (t.0 (sym number)))
          (at_cases drawn d (p ∷ drawn d) k)

      later : (q k : ℕ) → IsTrue (has_pool (drawn k) q) → IsTrue (has_pool (at_domain drawn d (p ∷ drawn d) k) q)
      later q k h = ⊎_elim
          (λ t. subst (λ z. IsTrue (has_pool z q)) (sym t.1) (or_right (eqb p q) (has_pool (drawn d) q) (subst (λ z. IsTrue (has_pool (drawn z) q)) t.0 h)))
          (λ t. subst (λ z. IsTrue (has_pool z q)) (sym t.1) h)
          (at_cases drawn d (p ∷ drawn d) k)

  -- a block comes into a pool, which then is a drawn one no more
  fills : (kept_now : List Label) (d p : ℕ) (l : Label) → IsTrue (has_label kept_now l) → ((q : ℕ) → HoldsKept kept pool_of q → HoldsKept kept_now (with_pool pool_of l p) q)
      → InPools n classes kept_now (with_pool pool_of l p) owner (at_domain drawn d (without_pool p (drawn d)))
  fills kept_now d p l is_kept still = record {
    few = λ k. ⊎_elim
        (λ t. let now : length (at_domain drawn d (without_pool p (drawn d)) k) ≡ length (without_pool p (drawn d)) = ap length t.1 in
        let less = without_length p (drawn d) in let le = i.few d in omega (arith, now, less, le))
        (λ t. let was : length (at_domain drawn d (without_pool p (drawn d)) k) ≡ length (drawn k) = ap length t.1 in let le = i.few k in omega (arith, was, le))
        (at_cases drawn d (without_pool p (drawn d)) k);
    inside = i.inside;
    holds = λ q k own. ⊎_elim
        (λ same. inr (l, is_kept, new_pool ∙ ap Some (sym same)))
        (λ other. ⊎_elim (λ drawn_one. inl (fresh q k other drawn_one)) (λ kept_one. inr (still q kept_one)) (i.holds q k own))
        (cases_eq q p);
  }
    where
      new_pool : with_pool pool_of l p l ≡ Some p
      new_pool = ap (λ b. cond b (Some p) (pool_of l)) (same_label_refl l)

      fresh : (q k : ℕ) → (q ≡ p → ⊥) → IsTrue (has_pool (drawn k) q) → IsTrue (has_pool (at_domain drawn d (without_pool p (drawn d)) k) q)
      fresh q k other h = ⊎_elim
          (λ t. subst (λ z. IsTrue (has_pool z q)) (sym t.1) (without_others p q (drawn d) other (subst (λ z. IsTrue (has_pool (drawn z) q)) t.0 h)))
          (λ t. subst (λ z. IsTrue (has_pool z q)) (sym t.1) h)
          (at_cases drawn d (without_pool p (drawn d)) k)

  -- a label that had another pool, or was none of the kept, isn't this one
  other_pool : (p : ℕ) (l x : Label) → (l ≡ x → ⊥) → with_pool pool_of l p x ≡ pool_of x
  other_pool p l x other = ap (λ b. cond b (Some p) (pool_of x)) (same_label-false l x other)

  -- the block of a new label, and the copy of a young one
  pub pools_fills : (d p : ℕ) (l : Label) → owner p ≡ Some d → has_label kept l ≡ false
      → InPools n classes (kept ++ l ∷ []) (with_pool pool_of l p) owner (at_domain drawn d (without_pool p (drawn d)))
  pools_fills d p l at new = fills (kept ++ l ∷ []) d p l (has-append_right kept (l ∷ []) l (or_left (same_label l l) false (same_label_refl l))) (λ q t. (
    t.0,
    has-append_left kept (l ∷ []) t.0 t.1,
    other_pool p l t.0 (λ same. never (has_label kept l) new (subst (λ z. IsTrue (has_label kept z)) (sym same) t.1)) ∙ t.2,
  ))

  pub pools_copies : (d p : ℕ) (l : Label) → owner p ≡ Some d → IsTrue (has_label kept l) → pool_of l ≡ None
      → InPools n classes kept (with_pool pool_of l p) owner (at_domain drawn d (without_pool p (drawn d)))
  pools_copies d p l at is_kept young = fills kept d p l is_kept (λ q t. (
    t.0,
    t.1,
    other_pool p l t.0 (λ same. let clash : ◌≡◌ {A = Option ℕ} None (Some q) = sym young ∙ ap pool_of same ∙ t.2 in cc) ∙ t.2,
  ))

  split : (pools : List ℕ) → Differ pools → AllHaveOwner owner pools → Split kept pool_of drawn n pools
  split [] differ all = record {
    fresh = [];
    holding = [];
    count = refl;
    fresh_differ = tt;
    holding_differ = tt;
    fresh_drawn = λ p h. cc;
    holding_kept = tt;
    fresh_none = λ p none. tt;
    holding_none = λ p none. tt;
  }
  split (p ∷ ps) differ all =
      let t = split ps differ.1 all.1 in ⊎_elim
      (λ drawn_one. record {
        fresh = p ∷ t.fresh;
        holding = t.holding;
        count = (let e = t.count in omega (arith, e));
        fresh_differ = (t.fresh_none p differ.0, t.fresh_differ);
        holding_differ = t.holding_differ;
        fresh_drawn = λ q h. ⊎_elim
            (λ here. subst (λ z. IsTrue (has_label (all_drawn drawn n) (as_label z))) (as_label_same p q (same_label-true (as_label p) (as_label q) here))
            (all_drawn_has drawn n all.0.0 p (i.inside p all.0.0 all.0.1) drawn_one))
            (λ later. t.fresh_drawn q later)
            (or_cases (same_label (as_label p) (as_label q)) (has_label (map as_label t.fresh) (as_label q)) h);
        holding_kept = t.holding_kept;
        fresh_none = λ q none. (none.0, t.fresh_none q none.1);
        holding_none = λ q none. t.holding_none q none.1;
      })
      (λ kept_one. record {
        fresh = t.fresh;
        holding = p ∷ t.holding;
        count = (let e = t.count in omega (arith, e));
        fresh_differ = t.fresh_differ;
        holding_differ = (t.holding_none p differ.0, t.holding_differ);
        fresh_drawn = t.fresh_drawn;
        holding_kept = (kept_one, t.holding_kept);
        fresh_none = λ q none. t.fresh_none q none.1;
        holding_none = λ q none. (none.0, t.holding_none q none.1);
      })
      (i.holds p all.0.0 all.0.1)

  -- each label of the list is that of a pool
  only_pools : (ps : List ℕ) (l : Label) → IsTrue (has_label (map as_label ps) l) → (p : ℕ) × (as_label p ≡ l)
  only_pools [] l h = cc
  only_pools (p ∷ ps) l h = ⊎_elim
      (λ here. (p, same_label-true (as_label p) l here))
      (λ later. only_pools ps l later)
      (or_cases (same_label (as_label p) l) (has_label (map as_label ps) l) h)

  pub pools_few : (pools : List ℕ) → Differ pools → AllHaveOwner owner pools → length pools ≤ length kept + classes * n
  pools_few pools differ all =
      let t = split pools differ all in
      let held = few_holding kept pool_of t.holding t.holding_differ t.holding_kept in
      let fresh = length_within (map as_label t.fresh) (all_drawn drawn n) (once_as_labels t.fresh t.fresh_differ)
      (λ l h. let u = only_pools t.fresh l h in
      subst (λ z. IsTrue (has_label (all_drawn drawn n) z)) u.1 (t.fresh_drawn u.0 (subst (λ z. IsTrue (has_label (map as_label t.fresh) z)) (sym u.1) h))) in
      let most = all_drawn_length drawn classes n i.few in
      let same = length-map_label t.fresh in
      let count = t.count in
      let turned : n * classes ≡ classes * n = omega arith in
      omega (arith, held, fresh, most, same, count, turned)

pub pools_law : PoolsLaw
pools_law = record { start = pools_start; draws = pools_draws; fills = pools_fills; copies = pools_copies; few_pools = pools_few }
