-- Which of two places of pools is the earlier one.
use Rattle.std.proofs.Common.{◌≡◌, ℕ, ◌<◌, ◌≤◌, ◌⊎◌, sym, refl, ◌∙◌, subst, inl, inr, ⊎_elim, arith}
use Rattle.heap_rule.specs.declared.view.Search.{Search}
use Rattle.heap_rule.specs.declared.view.Spot.{Spot}
use Rattle.heap_rule.specs.Pools.{IsBefore, freed_at, place_of}
use Rattle.heap_rule.proofs.Searches.{Freed, Begins, Stays, freed_cases}
use Rattle.step_sweep.specs.Freeing.{IsNoLater}

-- what is before it is before the other
pub before_other : (a b : Spot) → IsNoLater a b → (q i : ℕ) → IsBefore q i a → IsBefore q i b
before_other a b order q i before =
    let p : ℕ = a.pool in let n : ℕ = b.pool in let u : ℕ = a.slot in let v : ℕ = b.slot in ⊎_elim
    (λ (h : q < p). ⊎_elim (λ (o : p < n). inl (let g : q < n = omega arith in g)) (λ (o : (p ≡ n) × (u ≤ v)). inl (let e = o.0 in let g : q < n = omega arith in g)) order)
    (λ (h : (q ≡ p) × (i < u)). ⊎_elim
    (λ (o : p < n). inl (let e = h.0 in let g : q < n = omega arith in g))
    (λ (o : (p ≡ n) × (u ≤ v)). inr (h.0 ∙ o.0, (let l = h.1 in let m = o.1 in let g : i < v = omega arith in g)))
    order)
    before

-- the place to which was looked doesn't stand further on once a place is free again
pub freed_no_later : (pool slot : ℕ) (s : Search) → IsNoLater (place_of (freed_at pool slot s)) (place_of s)
freed_no_later pool slot s = of (freed_cases pool slot s)
  where
    of : Freed pool slot s → IsNoLater (place_of (freed_at pool slot s)) (place_of s)
    of (Begins before is) = subst (λ (z : Search). IsNoLater (place_of z) (place_of s)) (sym is)
        (⊎_elim (λ (h : pool < s.pool). inl h) (λ (h : (pool ≡ s.pool) × (slot < s.slot)). inr (h.0, (let n : ℕ = s.slot in let l : slot < n = h.1 in let g : slot ≤ n = omega arith in g))) before)
    of (Stays _ is) = subst (λ (z : Search). IsNoLater (place_of z) (place_of s)) (sym is) (inr (refl, (let n : ℕ = s.slot in let g : n ≤ n = omega arith in g)))
