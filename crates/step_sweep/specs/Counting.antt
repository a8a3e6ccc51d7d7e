-- What the steps ask and tell by which each domain counts what lives in its pools.
use Rattle.std.specs.Prelude.{◌≡◌, ◌≢◌, ℕ, ◌+◌, ◌<◌, ◌≤◌, ◌⊎◌, ◌^◌, true, false, ◌∷◌, length, Some}
use Rattle.model_core.specs.Domains.{class_count}
use Rattle.model_core.specs.Fronts.{Shape}
use Rattle.heap_rule.specs.declared.config.Config.{Config}
use Rattle.heap_rule.specs.declared.phase.Kind.TheVariants.{Sweep}
use Rattle.heap_rule.specs.declared.phase.Stage.TheVariants.{In}
use Rattle.heap_rule.specs.declared.view.DomainView.{DomainView}
use Rattle.heap_rule.specs.Places.{IsHeadOf, extent}
use Rattle.heap_rule.specs.Pools.{IsBefore, blocks_of, owned, owner_word, place_in}
use Rattle.step_marks.specs.Marking.Looks.{with_share}
use Rattle.step_marks.specs.Marking.Marking.{behind}

-- in Sweep, while the domain counts, a load of the owner of the next pool
pub record CountOwnMay (k : Config) (x : DomainView) (at pool : ℕ) : Type 0 where
  pub stage : x.seen.stage ≡ In Sweep
  pub counts : x.seen.share.added_blocks ≡ false
  pub inside : pool < k.pools
  pub word : at ≡ 11 + k.pools + pool
  pub next : x.seen.share.counted_to ≡ record { pool = pool; slot = 0 }

-- the pool is the domain's own, for blocks of a class, or the count goes on in the next one
pub record CountOwnTold (pool : ℕ) (x : DomainView) (found : ℕ) (y : DomainView) : Type 0 where
  pub told : ((class : ℕ) × (class < class_count) × (found ≡ owner_word (owned x.own.number class)) × (y ≡ with_share x (record x.seen.share { own_pool = Some (record { pool = pool; class = class }) })))
      ⊎ (((class : ℕ) → class < class_count → found ≢ owner_word (owned x.own.number class)) × (y ≡ with_share x (record x.seen.share { counted_to = record { pool = pool + 1; slot = 0 } })))

-- a load of the head at the next own place, where no garbage is any more
pub record CountMay (x : DomainView) (at pool class slot : ℕ) : Type 0 where
  pub stage : x.seen.stage ≡ In Sweep
  pub counts : x.seen.share.added_blocks ≡ false
  pub own : x.seen.share.own_pool ≡ Some (record { pool = pool; class = class })
  pub inside : slot < blocks_of class
  pub word : at ≡ place_in pool class slot
  pub next : x.seen.share.counted_to ≡ record { pool = pool; slot = slot }
  pub swept : IsBefore pool slot x.own.swept.spot

-- the place is free, or a block lives there, which is counted with its words
pub record CountTold (at pool class slot : ℕ) (x : DomainView) (found : ℕ) (y : DomainView) : Type 0 where
  pub told : ((found ≡ 0) × (y ≡ with_share x (record x.seen.share { counted_to = behind pool class slot })))
      ⊎ ((shape : Shape) × IsHeadOf shape found × (y ≡ with_share x (record x.seen.share { counted = at ∷ x.seen.share.counted; counted_to = behind pool class slot; counted_words = x.seen.share.counted_words + extent shape })))

-- what a domain has counted in all its pools is added to the live blocks
pub record BlocksAddMay (x : DomainView) (amount : ℕ) : Type 0 where
  pub stage : x.seen.stage ≡ In Sweep
  pub whole : x.own.swept.top ≤ x.seen.share.counted_to.pool
  pub once : x.seen.share.added_blocks ≡ false
  pub counted : amount ≡ length x.seen.share.counted
  pub few : amount < 2 ^ 40

abbrev pub BlocksAdded : DomainView → ℕ → DomainView → Type 0
BlocksAdded x found y = y ≡ with_share x (record x.seen.share { added_blocks = true })

-- and then its words to the live words
pub record WordsAddMay (x : DomainView) (amount : ℕ) : Type 0 where
  pub stage : x.seen.stage ≡ In Sweep
  pub blocks : x.seen.share.added_blocks ≡ true
  pub once : x.seen.share.added_words ≡ false
  pub counted : amount ≡ x.seen.share.counted_words
  pub few : amount < 2 ^ 40

abbrev pub WordsAdded : DomainView → ℕ → DomainView → Type 0
WordsAdded x found y = y ≡ with_share x (record x.seen.share { added_words = true })
