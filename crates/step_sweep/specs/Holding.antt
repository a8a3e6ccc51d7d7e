-- What the steps ask and tell by which a domain finds that each of its pools holds a block.
use Rattle.std.specs.Prelude.{◌≡◌, ◌≢◌, ℕ, ◌+◌, ◌<◌, ◌≤◌, ◌⊎◌, Some}
use Rattle.model_core.specs.Domains.{class_count}
use Rattle.heap_rule.specs.declared.config.Config.{Config}
use Rattle.heap_rule.specs.declared.phase.Kind.TheVariants.{Sweep, Answer}
use Rattle.heap_rule.specs.declared.phase.Stage.TheVariants.{In}
use Rattle.heap_rule.specs.declared.view.DomainView.{DomainView}
use Rattle.heap_rule.specs.Pools.{blocks_of, owned, owner_word, place_in}
use Rattle.step_marks.specs.Marking.Looks.{with_share}

-- a domain may give pools back where it has swept all its own, and where a collection is answered
abbrev pub Returns : Config → DomainView → Type 0
Returns k x = ((x.seen.stage ≡ In Sweep) × (k.pools ≤ x.own.swept.spot.pool)) ⊎ (x.seen.stage ≡ In Answer)

-- a load of the owner of the next pool
pub record HeldOwnMay (k : Config) (x : DomainView) (at pool : ℕ) : Type 0 where
  pub returns : Returns k x
  pub inside : pool < k.pools
  pub word : at ≡ 11 + k.pools + pool
  pub next : x.seen.share.held ≡ pool
  pub first : x.seen.share.vacant ≡ 0

-- the pool is the domain's own, for blocks of a class, or the next pool is looked at
pub record HeldOwnTold (pool : ℕ) (x : DomainView) (found : ℕ) (y : DomainView) : Type 0 where
  pub told : ((class : ℕ) × (class < class_count) × (found ≡ owner_word (owned x.own.number class)) × (y ≡ with_share x (record x.seen.share { own_pool = Some (record { pool = pool; class = class }) })))
      ⊎ (((class : ℕ) → class < class_count → found ≢ owner_word (owned x.own.number class)) × (y ≡ with_share x (record x.seen.share { held = pool + 1 })))

-- a load of the head at the next place of the next pool, which is the domain's own. The places before it were found free
pub record HeldMay (k : Config) (x : DomainView) (at pool class slot : ℕ) : Type 0 where
  pub returns : Returns k x
  pub own : x.seen.share.own_pool ≡ Some (record { pool = pool; class = class })
  pub inside : slot < blocks_of class
  pub word : at ≡ place_in pool class slot
  pub next : x.seen.share.held ≡ pool
  pub slot_is : x.seen.share.vacant ≡ slot

-- the place is free, or a block lives there and the pool behind is next
pub record HeldTold (pool slot : ℕ) (x : DomainView) (found : ℕ) (y : DomainView) : Type 0 where
  pub told : ((found ≡ 0) × (y ≡ with_share x (record x.seen.share { vacant = slot + 1 }))) ⊎ ((found ≢ 0) × (y ≡ with_share x (record x.seen.share { held = pool + 1; vacant = 0 })))
