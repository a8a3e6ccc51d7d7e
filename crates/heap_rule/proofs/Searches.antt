-- What a search for a free place has passed.
use Rattle.std.proofs.Common.{◌≡◌, ◌≢◌, ℕ, ◌<◌, ◌≤◌, ◌⊎◌, ◌==◌, ◌&&◌, ◌||◌, Bool, true, false, cond, nat_lt, List, set, length-set, get_or-set_same, get_or-set_other, eq-eqb, ne_eqb, sym, refl, ap, ◌∙◌, subst, inl, inr, ⊎_elim, arith, lt_of_not-le}
use Rattle.std.proofs.lemmas.Bool.{le-ltb, lt-ltb}
use Rattle.model_core.specs.Domains.{class_count}
use Rattle.heap_rule.specs.declared.config.Config.{Config}
use mathlib.Core.Logic.{dite}
use native.Mathlib.Decide.{ℕ_discrete, dec_le}
use Rattle.heap_rule.specs.declared.view.Search.{Search}
use Rattle.heap_rule.specs.Pools.{IsBefore, IsPassed, blocks_of, first_search, freed_at, place_of, search_at}
use Rattle.heap_rule.specs.Token.{LooksWithin}
use Rattle.heap_rule.proofs.Lots.{none_before}

-- at the start no place is
pub none_passed : (q slot : ℕ) → IsPassed q slot first_search → ⊥
none_passed q slot passed = ⊎_elim (λ (h : IsBefore q slot (record { pool = 0; slot = 0 })). none_before q slot h) (λ (h : (false ≡ true) × (0 < q)). let e : false ≡ true = h.0 in cc) passed

-- both of two facts hold
both_true : (a b : Bool) → (a && b) ≡ true → (a ≡ true) × (b ≡ true)
both_true true true e = (refl, refl)
both_true true false e = cc
both_true false b e = cc

eqb_same : (m n : ℕ) → (m == n) ≡ true → m ≡ n
eqb_same m n is = dite (ℕ_discrete m n) (λ same. same) (λ other. let f : (m == n) ≡ false = ne_eqb m n other in let e : true ≡ false = sym is ∙ f in cc)

-- what a place is free again leaves of the search: it begins at the place where that is earlier, else it stays
pub data Freed (pool slot : ℕ) (s : Search) : Type 0 where
  Begins : IsBefore pool slot (place_of s) → freed_at pool slot s ≡ record { pool = pool; slot = slot; only = s.only && (s.pool == pool) } → Freed pool slot s
  Stays : (IsBefore pool slot (place_of s) → ⊥) → freed_at pool slot s ≡ record { pool = s.pool; slot = s.slot; only = s.only && (s.pool == pool) } → Freed pool slot s

picked : (pool slot : ℕ) (s : Search) (x y z : Bool) → nat_lt pool s.pool ≡ x → (pool == s.pool) ≡ y → nat_lt slot s.slot ≡ z
    → freed_at pool slot s ≡ cond (x || (y && z)) (record { pool = pool; slot = slot; only = s.only && (s.pool == pool) }) (record { pool = s.pool; slot = s.slot; only = s.only && (s.pool == pool) })
picked pool slot s x y z e f g = ap (λ (w : Bool × Bool × Bool). cond (w.0 || (w.1 && w.2)) (record { pool = pool; slot = slot; only = s.only && (s.pool == pool) }) (record { pool = s.pool; slot = s.slot; only = s.only && (s.pool == pool) })) (λ i. (e i, f i, g i))

pub freed_cases : (pool slot : ℕ) (s : Search) → Freed pool slot s
freed_cases pool slot s = dite (dec_le s.pool pool)
    (λ le. dite (ℕ_discrete pool s.pool)
    (λ same. dite (dec_le s.slot slot)
    (λ past. Stays (λ b. ⊎_elim (λ (h : pool < s.pool). let l : s.pool ≤ pool = le in omega arith) (λ (h : (pool ≡ s.pool) × (slot < s.slot)). let l : s.slot ≤ slot = past in let f = h.1 in omega arith) b)
    (picked pool slot s false true false (le-ltb pool s.pool le) (eq-eqb pool s.pool same) (le-ltb slot s.slot past)))
    (λ here. Begins (inr (same, lt_of_not-le here)) (picked pool slot s false true true (le-ltb pool s.pool le) (eq-eqb pool s.pool same) (lt-ltb slot s.slot (lt_of_not-le here)))))
    (λ other. Stays (λ b. ⊎_elim (λ (h : pool < s.pool). let l : s.pool ≤ pool = le in omega arith) (λ (h : (pool ≡ s.pool) × (slot < s.slot)). other h.0) b)
    (picked pool slot s false false (nat_lt slot s.slot) (le-ltb pool s.pool le) (ne_eqb pool s.pool other) refl)))
    (λ gt. Begins (inl (lt_of_not-le gt)) (picked pool slot s true (pool == s.pool) (nat_lt slot s.slot) (lt-ltb pool s.pool (lt_of_not-le gt)) refl refl))

-- what comes before a place that comes before another does so too
before_trans : (q i pool slot : ℕ) (s : Search) → IsBefore q i (record { pool = pool; slot = slot }) → IsBefore pool slot (place_of s) → IsBefore q i (place_of s)
before_trans q i pool slot s a b = ⊎_elim
    (λ (h : q < pool). ⊎_elim (λ (g : pool < s.pool). inl (let o : q < s.pool = omega arith in o)) (λ (g : (pool ≡ s.pool) × (slot < s.slot)). let e : pool ≡ s.pool = g.0 in inl (let o : q < s.pool = omega arith in o)) b)
    (λ (h : (q ≡ pool) × (i < slot)). let e : q ≡ pool = h.0 in let f : i < slot = h.1 in
    ⊎_elim (λ (g : pool < s.pool). inl (let o : q < s.pool = omega arith in o)) (λ (g : (pool ≡ s.pool) × (slot < s.slot)). let u : pool ≡ s.pool = g.0 in let v : slot < s.slot = g.1 in inr ((let o : q ≡ s.pool = omega arith in o), (let o : i < s.slot = omega arith in o))) b)
    a

before_self : (q i pool slot : ℕ) → IsBefore q i (record { pool = pool; slot = slot }) → (q ≡ pool) × (i ≡ slot) → ⊥
before_self q i pool slot b same = let e : q ≡ pool = same.0 in let f : i ≡ slot = same.1 in ⊎_elim (λ (h : q < pool). omega arith) (λ (h : (q ≡ pool) × (i < slot)). let l : i < slot = h.1 in omega arith) b

-- where only one pool may have a free place, and that is the one in which a place is free again, it is still so of the pools behind it
only_behind : (q pool : ℕ) (s : Search) → (s.only && (s.pool == pool)) ≡ true → pool < q → ((s.only ≡ true) × (s.pool < q)) × (q ≢ pool)
only_behind q pool s is behind = let t = both_true s.only (s.pool == pool) is in let e : s.pool ≡ pool = eqb_same s.pool pool t.1 in ((t.0, (let g : s.pool < q = omega arith in g)), λ here. omega arith)

-- all that is passed then was passed before, and isn't the place
pub passed_freed : (q i pool slot : ℕ) (s : Search) → IsPassed q i (freed_at pool slot s) → IsPassed q i s × ((q ≡ pool) × (i ≡ slot) → ⊥)
passed_freed q i pool slot s passed = of (freed_cases pool slot s)
  where
    of : Freed pool slot s → IsPassed q i s × ((q ≡ pool) × (i ≡ slot) → ⊥)
    of (Begins before is) = ⊎_elim
        (λ (h : IsBefore q i (record { pool = pool; slot = slot })). (inl (before_trans q i pool slot s h before), before_self q i pool slot h))
        (λ (h : ((s.only && (s.pool == pool)) ≡ true) × (pool < q)). let b = only_behind q pool s h.0 h.1 in (inr b.0, λ same. b.1 same.0))
        (subst (IsPassed q i) is passed)
    of (Stays past is) = ⊎_elim
        (λ (h : IsBefore q i (place_of s)). (inl h, λ same. past (subst (λ (n : ℕ × ℕ). IsBefore n.0 n.1 (place_of s)) (λ j. (same.0 j, same.1 j)) h)))
        (λ (h : ((s.only && (s.pool == pool)) ≡ true) × (s.pool < q)).
        let t = both_true s.only (s.pool == pool) h.0 in
        let e : s.pool ≡ pool = eqb_same s.pool pool t.1 in
        let far : s.pool < q = h.1 in
        (inr (t.0, far), λ same. let here : q ≡ pool = same.0 in omega arith))
        (subst (IsPassed q i) is passed)

-- how far it was looked lies within the pools, once a place of a class is free again
pub looks_freed : (k : Config) (looked : List Search) (pool class slot : ℕ) → pool ≤ k.pools → class < class_count → slot < blocks_of class → LooksWithin k looked → LooksWithin k (set looked class (freed_at pool slot (search_at looked class)))
looks_freed k looked pool class slot inside few below l = record {
  wide = length-set looked class new ∙ l.wide;
  within = λ c low. dite (ℕ_discrete c class)
      (λ same. subst (λ (z : Search × ℕ). (z.0.pool ≤ k.pools) × (z.0.slot < blocks_of z.1)) (λ i. (sym (ap (search_at (set looked class new)) same ∙ get_or-set_same looked class new first_search (subst (λ (n : ℕ). class < n) (sym l.wide) few)) i, sym same i)) (of (freed_cases pool slot (search_at looked class))))
      (λ other. subst (λ (z : Search). (z.pool ≤ k.pools) × (z.slot < blocks_of c)) (sym (get_or-set_other looked class c new first_search other)) (l.within c low));
} where
  new : Search
  new = freed_at pool slot (search_at looked class)

  of : Freed pool slot (search_at looked class) → (new.pool ≤ k.pools) × (new.slot < blocks_of class)
  of (Begins _ is) = subst (λ (z : Search). (z.pool ≤ k.pools) × (z.slot < blocks_of class)) (sym is) (inside, below)
  of (Stays _ is) = subst (λ (z : Search). (z.pool ≤ k.pools) × (z.slot < blocks_of class)) (sym is) (l.within class few)
