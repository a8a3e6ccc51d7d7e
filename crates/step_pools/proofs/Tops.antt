-- Where walks over own pools go on, and below which pool own pools lie.
use Rattle.std.proofs.Common.{◌≡◌, ◌≢◌, ℕ, ◌+◌, ◌<◌, ◌≤◌, ◌⊎◌, Bool, true, false, cond, sym, refl, ap, ◌∙◌, subst, inl, inr, ⊎_elim, arith, lt_of_not-le}
use Rattle.std.proofs.lemmas.Bool.{le-ltb, lt-ltb}
use mathlib.Core.Logic.{dite}
use native.Mathlib.Decide.{ℕ_discrete, dec_le}
use Rattle.heap_rule.specs.declared.view.Search.{Search}
use Rattle.heap_rule.specs.Pools.{IsBefore, IsPassed, place_of}
use Rattle.step_pools.specs.Writes.{pool_after, pool_behind, top_above}

-- behind a pool a walk goes on in the next one, or behind the last one of the heap
pub after_more : (pools top pool : ℕ) → pool + 1 < top → pool_after pools top pool ≡ pool + 1
after_more pools top pool more = ap (λ (b : Bool). cond b (pool + 1) pools) (lt-ltb (pool + 1) top more)

pub after_last : (pools top pool : ℕ) → top ≤ pool + 1 → pool_after pools top pool ≡ pools
after_last pools top pool last = ap (λ (b : Bool). cond b (pool + 1) pools) (le-ltb (pool + 1) top last)

-- no own pool is left out, for all own pools lie below the top
pub before_after : (pools top pool q : ℕ) → q < pool_after pools top pool → q < top → q ≢ pool → q < pool
before_after pools top pool q before low other = dite (dec_le top (pool + 1))
    (λ last. let l : top ≤ pool + 1 = last in let n : q ≢ pool = other in omega arith)
    (λ more. let h : q < pool + 1 = subst (λ (n : ℕ). q < n) (after_more pools top pool (lt_of_not-le more)) before in let n : q ≢ pool = other in omega arith)

-- a walk goes on within the pools
pub after_within : (pools top pool : ℕ) → pool < pools → pool_after pools top pool ≤ pools
after_within pools top pool inside = dite (dec_le top (pool + 1))
    (λ last. subst (λ (n : ℕ). n ≤ pools) (sym (after_last pools top pool last)) (let same : pools ≤ pools = omega arith in same))
    (λ more. subst (λ (n : ℕ). n ≤ pools) (sym (after_more pools top pool (lt_of_not-le more))) (let next : pool + 1 ≤ pools = omega arith in next))

-- and in a later one
pub after_later : (pools top pool : ℕ) → pool < pools → pool < pool_after pools top pool
after_later pools top pool inside = dite (dec_le top (pool + 1))
    (λ last. subst (λ (n : ℕ). pool < n) (sym (after_last pools top pool last)) inside)
    (λ more. subst (λ (n : ℕ). pool < n) (sym (after_more pools top pool (lt_of_not-le more))) (let next : pool < pool + 1 = omega arith in next))

bool_cases : (b : Bool) → (b ≡ true) ⊎ (b ≡ false)
bool_cases true = inl refl
bool_cases false = inr refl

-- behind the only pool that may have had a free place none has one, and behind another the walk goes on
behind_only : (pools top pool : ℕ) (s : Search) → s.only ≡ true → pool_behind pools top pool s ≡ record { pool = pools; slot = 0; only = true }
behind_only pools top pool s is = ap (λ (b : Bool). of b) is where
  of : Bool → Search
  of b = record { pool = cond b pools (pool_after pools top pool); slot = 0; only = b }

behind_others : (pools top pool : ℕ) (s : Search) → s.only ≡ false → pool_behind pools top pool s ≡ record { pool = pool_after pools top pool; slot = 0; only = false }
behind_others pools top pool s is = ap (λ (b : Bool). of b) is where
  of : Bool → Search
  of b = record { pool = cond b pools (pool_after pools top pool); slot = 0; only = b }

-- it lies within the pools
pub behind_within : (pools top pool : ℕ) (s : Search) → pool < pools → (pool_behind pools top pool s).pool ≤ pools
behind_within pools top pool s inside = ⊎_elim
    (λ (is : s.only ≡ true). subst (λ (z : Search). z.pool ≤ pools) (sym (behind_only pools top pool s is)) (let same : pools ≤ pools = omega arith in same))
    (λ (is : s.only ≡ false). subst (λ (z : Search). z.pool ≤ pools) (sym (behind_others pools top pool s is)) (after_within pools top pool inside))
    (bool_cases s.only)

-- in a later one
pub behind_later : (pools top pool : ℕ) (s : Search) → pool < pools → pool < (pool_behind pools top pool s).pool
behind_later pools top pool s inside = ⊎_elim
    (λ (is : s.only ≡ true). subst (λ (z : Search). pool < z.pool) (sym (behind_only pools top pool s is)) inside)
    (λ (is : s.only ≡ false). subst (λ (z : Search). pool < z.pool) (sym (behind_others pools top pool s is)) (after_later pools top pool inside))
    (bool_cases s.only)

-- and what is passed then was passed before, or lies in the pool
pub passed_behind : (pools top pool q i : ℕ) (s : Search) → s.pool ≡ pool → q < top → IsPassed q i (pool_behind pools top pool s) → (q ≡ pool) ⊎ IsPassed q i s
passed_behind pools top pool q i s here low passed = dite (ℕ_discrete q pool)
    (λ same. inl same)
    (λ other. inr (⊎_elim
    (λ (is : s.only ≡ true). dite (dec_le q pool)
    (λ before. inl (inl (let n : q ≢ pool = other in let l : q ≤ pool = before in let e : s.pool ≡ pool = here in let g : q < s.pool = omega arith in g)))
    (λ behind. inr (is, (let l : pool < q = lt_of_not-le behind in let e : s.pool ≡ pool = here in let g : s.pool < q = omega arith in g))))
    (λ (is : s.only ≡ false). ⊎_elim
    (λ (h : IsBefore q i (record { pool = pool_after pools top pool; slot = 0 })). inl (inl (⊎_elim
    (λ (l : q < pool_after pools top pool). let g : q < pool = before_after pools top pool q l low other in let e : s.pool ≡ pool = here in let m : q < s.pool = omega arith in m)
    (λ (l : (q ≡ pool_after pools top pool) × (i < 0)). let z : i < 0 = l.1 in omega arith)
    h)))
    (λ (h : (false ≡ true) × (pool_after pools top pool < q)). let e : false ≡ true = h.0 in cc)
    (subst (IsPassed q i) (behind_others pools top pool s is) passed))
    (bool_cases s.only)))

above_low : (top pool : ℕ) → pool < top → top_above top pool ≡ top
above_low top pool low = ap (λ (b : Bool). cond b top (pool + 1)) (lt-ltb pool top low)

above_high : (top pool : ℕ) → top ≤ pool → top_above top pool ≡ pool + 1
above_high top pool high = ap (λ (b : Bool). cond b top (pool + 1)) (le-ltb pool top high)

-- the top is no lower once a pool is owned, and lies above it
pub above_top : (top pool : ℕ) → (top ≤ top_above top pool) × (pool < top_above top pool)
above_top top pool = dite (dec_le top pool)
    (λ high. subst (λ (n : ℕ). (top ≤ n) × (pool < n)) (sym (above_high top pool high)) (let h : top ≤ pool = high in (let a : top ≤ pool + 1 = omega arith in a, let b : pool < pool + 1 = omega arith in b)))
    (λ low. subst (λ (n : ℕ). (top ≤ n) × (pool < n)) (sym (above_low top pool (lt_of_not-le low))) (let a : top ≤ top = omega arith in a, lt_of_not-le low))

-- and within the pools
pub above_within : (pools top pool : ℕ) → pool < pools → top ≤ pools → top_above top pool ≤ pools
above_within pools top pool inside low = dite (dec_le top pool)
    (λ high. subst (λ (n : ℕ). n ≤ pools) (sym (above_high top pool high)) (let a : pool + 1 ≤ pools = omega arith in a))
    (λ below. subst (λ (n : ℕ). n ≤ pools) (sym (above_low top pool (lt_of_not-le below))) low)

-- where it stays
pub low_same : (top : ℕ) → top ≤ top
low_same top = omega arith
