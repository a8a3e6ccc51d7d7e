-- What a domain knows that looks whether its pools hold blocks, and gives the others back.
use Rattle.std.specs.Prelude.{◌≡◌, ℕ, ◌≤◌, Some}
use Rattle.heap_rule.specs.declared.config.Config.{Config}
use Rattle.heap_rule.specs.declared.view.DomainView.{DomainView}
use Rattle.heap_rule.specs.Pools.{blocks_of}
use Rattle.step_sweep.specs.Holding.{Returns}
use Rattle.step_sweep.specs.Returning.{topped}

-- the domain with what these looks change as another has it
abbrev pub with_looks : DomainView → DomainView → DomainView
with_looks x y = record x { seen = record x.seen { listing = y.seen.listing; share = record x.seen.share { own_pool = y.seen.share.own_pool; held = y.seen.share.held; vacant = y.seen.share.vacant; reaping = y.seen.share.reaping } } }

-- the domain with the top as another has it
abbrev pub sunk : DomainView → DomainView → DomainView
sunk x y = record x { own = topped x.own y.own.swept.top }

-- and with what the looks change too
abbrev pub with_returns : DomainView → DomainView → DomainView
with_returns x y = record (with_looks x y) { own = topped x.own y.own.swept.top }

-- it may give pools back, and looks at a pool next, of which it knows nothing
pub record LooksFrom (k : Config) (x : DomainView) (pool : ℕ) : Type 0 where
  pub returns : Returns k x
  pub next : x.seen.share.held ≡ pool
  pub first : x.seen.share.vacant ≡ 0

-- and the pool is the domain's own
pub record LooksIn (k : Config) (x : DomainView) (pool class : ℕ) : Type 0 where
  pub own : x.seen.share.own_pool ≡ Some (record { pool = pool; class = class })
  pub from : LooksFrom k x pool

-- each place of the pool, which is the domain's own, was found free
pub record FoundEmpty (k : Config) (x : DomainView) (pool class : ℕ) : Type 0 where
  pub returns : Returns k x
  pub own : x.seen.share.own_pool ≡ Some (record { pool = pool; class = class })
  pub next : x.seen.share.held ≡ pool
  pub all : blocks_of class ≤ x.seen.share.vacant
