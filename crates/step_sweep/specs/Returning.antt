-- What the steps ask and tell by which a domain gives back a pool in which nothing is left, and by which the top sinks.
use Rattle.std.specs.Prelude.{◌≡◌, ℕ, ◌+◌, ◌<◌, ◌≤◌, ◌⊎◌, Some, None}
use Rattle.heap_rule.specs.declared.config.Config.{Config}
use Rattle.heap_rule.specs.declared.view.DomainView.{DomainView}
use Rattle.model_core.specs.Domains.{class_count}
use Rattle.heap_rule.specs.declared.view.Own.{Own}
use Rattle.heap_rule.specs.declared.view.Reaping.TheVariants.{Outside}
use Rattle.heap_rule.specs.Pools.{blocks_of, no_listing, owned, owner_word}
use Rattle.step_marks.specs.Marking.Looks.{with_share}
use Rattle.step_sweep.specs.Holding.{Returns}

-- no pool is listed any more
abbrev pub ListVoided : DomainView → ℕ → DomainView → Type 0
ListVoided x found y = y ≡ record x { seen = record x.seen { listing = Some no_listing } }

-- a store to the owner's word of the next pool, which is the domain's own, and each of whose places was found free. The list of free pools names none
pub record ReturnMay (k : Config) (x : DomainView) (at pool class : ℕ) : Type 0 where
  pub returns : Returns k x
  pub void : x.seen.listing ≡ Some no_listing
  pub own : x.seen.share.own_pool ≡ Some (record { pool = pool; class = class })
  pub next : x.seen.share.held ≡ pool
  pub all : blocks_of class ≤ x.seen.share.vacant
  pub inside : pool < k.pools
  pub word : at ≡ 11 + k.pools + pool

-- the pool is the domain's no more, it sweeps none, and the pool behind it is next
abbrev pub ReturnTold : ℕ → DomainView → ℕ → DomainView → Type 0
ReturnTold pool x found y = y ≡ with_share x (record x.seen.share { own_pool = None; held = pool + 1; vacant = 0; reaping = Outside })

-- the own data with own pools below this one
abbrev pub topped : Own → ℕ → Own
topped own top = record own { swept = record own.swept { top = top } }

-- a load of the owner of the last pool below the top
pub record TopMay (k : Config) (x : DomainView) (at pool : ℕ) : Type 0 where
  pub returns : Returns k x
  pub last : x.own.swept.top ≡ pool + 1
  pub inside : pool < k.pools
  pub word : at ≡ 11 + k.pools + pool

-- the word says that the pool is the domain's
abbrev pub IsOwn : ℕ → Own → ℕ → Type 0
IsOwn class own found = (class < class_count) × (found ≡ owner_word (owned own.number class))

-- the pool is the domain's own, or the top sinks to it
pub record TopTold (pool : ℕ) (x : DomainView) (found : ℕ) (y : DomainView) : Type 0 where
  pub told : (((class : ℕ) × IsOwn class x.own found) × (y ≡ x)) ⊎ (((class : ℕ) → IsOwn class x.own found → ⊥) × (y ≡ record x { own = topped x.own pool }))

-- what it writes
abbrev pub SinksTop : ℕ → ℕ → Own → Own → Type 0
SinksTop pool found own after = (((class : ℕ) × IsOwn class own found) × (after ≡ own)) ⊎ (((class : ℕ) → IsOwn class own found → ⊥) × (after ≡ topped own pool))
