-- Fullness while domains run: each owned pool holds a kept block, or has held one, but for the few that a domain has just drawn.
use Rattle.std.specs.Prelude.{◌≡◌, ◌⊎◌, Bool, ℕ, ◌+◌, ◌*◌, ◌<◌, ◌≤◌, false, cond, ◌==◌, IsTrue, List, [], ◌∷◌, ◌++◌, length, Option, Some, None}
use Rattle.std.specs.List.{list_any}
use Rattle.model_core.specs.declared.label.Label.{Label}
use Rattle.model_core.specs.Graph.{same_label, has_label}
use Rattle.model_cycle.specs.Shares.{at_domain}
use Rattle.model_cycle.specs.Fullness.{HoldsKept, Differ}

-- whether a pool is one of these
abbrev pub has_pool : List ℕ → ℕ → Bool
has_pool ps p = list_any (λ q. q == p) ps

-- the pools without one
abbrev pub without_pool : ℕ → List ℕ → List ℕ
without_pool p [] = []
without_pool p (q ∷ ps) = cond (q == p) (without_pool p ps) (q ∷ without_pool p ps)

-- the same with the pool in which one more label's block lies
abbrev pub with_pool : (Label → Option ℕ) → Label → ℕ → Label → Option ℕ
with_pool pool_of l p x = cond (same_label l x) (Some p) (pool_of x)

-- each pool that a domain owns holds a kept block, or has held one, but for those that it has drawn and not filled, at most one for each class
pub record InPools (n classes : ℕ) (kept : List Label) (pool_of : Label → Option ℕ) (owner : ℕ → Option ℕ) (drawn : ℕ → List ℕ) : Type 0 where
  pub few : (d : ℕ) → length (drawn d) ≤ classes
  pub inside : (p d : ℕ) → owner p ≡ Some d → d < n
  pub holds : (p d : ℕ) → owner p ≡ Some d → IsTrue (has_pool (drawn d) p) ⊎ HoldsKept kept pool_of p

-- each of these pools has an owner
abbrev pub AllHaveOwner : (ℕ → Option ℕ) → List ℕ → Type 0
AllHaveOwner owner [] = Unit {0}
AllHaveOwner owner (p ∷ ps) = ((d : ℕ) × (owner p ≡ Some d)) × AllHaveOwner owner ps

-- how pools are drawn and filled between two complete collections, and how many of them are owned
pub record PoolsLaw : Type 0 where
  -- after a complete collection has given back the pools in which nothing is left
  pub start : (n classes : ℕ) (kept : List Label) (pool_of : Label → Option ℕ) (owner : ℕ → Option ℕ) → ((p d : ℕ) → owner p ≡ Some d → (d < n) × HoldsKept kept pool_of p)
      → InPools n classes kept pool_of owner (λ d. [])
  -- a domain draws a pool
  pub draws : (n classes : ℕ) (kept : List Label) (pool_of : Label → Option ℕ) (owner : ℕ → Option ℕ) (drawn : ℕ → List ℕ) → InPools n classes kept pool_of owner drawn
      → (d p : ℕ) → d < n → length (drawn d) < classes → InPools n classes kept pool_of (at_domain owner p (Some d)) (at_domain drawn d (p ∷ drawn d))
  -- a new label's block comes into a pool, which then is a drawn one no more
  pub fills : (n classes : ℕ) (kept : List Label) (pool_of : Label → Option ℕ) (owner : ℕ → Option ℕ) (drawn : ℕ → List ℕ) → InPools n classes kept pool_of owner drawn
      → (d p : ℕ) (l : Label) → owner p ≡ Some d → has_label kept l ≡ false
      → InPools n classes (kept ++ l ∷ []) (with_pool pool_of l p) owner (at_domain drawn d (without_pool p (drawn d)))
  -- the copy of a young block, whose label is kept, comes into a pool
  pub copies : (n classes : ℕ) (kept : List Label) (pool_of : Label → Option ℕ) (owner : ℕ → Option ℕ) (drawn : ℕ → List ℕ) → InPools n classes kept pool_of owner drawn
      → (d p : ℕ) (l : Label) → owner p ≡ Some d → IsTrue (has_label kept l) → pool_of l ≡ None
      → InPools n classes kept (with_pool pool_of l p) owner (at_domain drawn d (without_pool p (drawn d)))
  -- so the owned pools are no more than the kept labels and the classes of all domains
  pub few_pools : (n classes : ℕ) (kept : List Label) (pool_of : Label → Option ℕ) (owner : ℕ → Option ℕ) (drawn : ℕ → List ℕ) → InPools n classes kept pool_of owner drawn
      → (pools : List ℕ) → Differ pools → AllHaveOwner owner pools → length pools ≤ length kept + classes * n
