-- What a domain has done that has counted what lives in its own pools.
use Rattle.std.specs.Prelude.{◌≡◌, ℕ, ◌+◌, ◌*◌, ◌<◌, ◌≤◌, true, false, [], length, Some}
use Rattle.heap_rule.specs.declared.config.Config.{Config}
use Rattle.heap_rule.specs.declared.phase.Kind.TheVariants.{Sweep}
use Rattle.heap_rule.specs.declared.phase.Stage.TheVariants.{In}
use Rattle.heap_rule.specs.declared.view.DomainView.{DomainView}
use Rattle.heap_rule.specs.Pools.{blocks_of}
use Rattle.step_marks.specs.Marking.Marking.{behind}
use Rattle.gc_sweep.specs.declared.counting.LiveCount.{LiveCount}

-- in Sweep, the domain has swept its pools, and adds nothing yet
pub record IsCounting (k : Config) (x : DomainView) : Type 0 where
  pub stage : x.seen.stage ≡ In Sweep
  pub swept : k.pools ≤ x.own.swept.spot.pool
  pub not_yet : x.seen.share.added_blocks ≡ false

-- it has counted nothing in this phase
pub record HasCountedNothing (x : DomainView) : Type 0 where
  pub blocks : x.seen.share.counted ≡ []
  pub words : x.seen.share.counted_words ≡ 0
  pub next : x.seen.share.counted_to ≡ record { pool = 0; slot = 0 }
  pub blocks_not_added : x.seen.share.added_blocks ≡ false
  pub words_not_added : x.seen.share.added_words ≡ false

-- these are the sums of what it has counted, at so many places at most
pub record IsLiveCount (t : LiveCount) (places : ℕ) (x : DomainView) : Type 0 where
  pub blocks : t.blocks ≡ length x.seen.share.counted
  pub words : t.words ≡ x.seen.share.counted_words
  pub few : t.blocks ≤ places
  pub light : t.words ≤ places * 1024

-- the next place to be counted is this one, in an own pool
pub record CountsAt (x : DomainView) (pool class slot : ℕ) : Type 0 where
  pub own : x.seen.share.own_pool ≡ Some (record { pool = pool; class = class })
  pub inside : slot < blocks_of class
  pub next : x.seen.share.counted_to ≡ record { pool = pool; slot = slot }

-- it is the first of an own pool
pub record CountsIn (x : DomainView) (pool class : ℕ) : Type 0 where
  pub own : x.seen.share.own_pool ≡ Some (record { pool = pool; class = class })
  pub next : x.seen.share.counted_to ≡ record { pool = pool; slot = 0 }

-- the domain with what counting changes as another has it
abbrev pub with_count : DomainView → DomainView → DomainView
with_count x y = record x { seen = record x.seen { share = record x.seen.share { own_pool = y.seen.share.own_pool; counted = y.seen.share.counted; counted_to = y.seen.share.counted_to; counted_words = y.seen.share.counted_words } } }

-- it has counted what lives at a place
pub record CountedPlace (pool class slot : ℕ) (x y : DomainView) : Type 0 where
  pub view : y ≡ with_count x y
  pub own_pool : y.seen.share.own_pool ≡ x.seen.share.own_pool
  pub next : y.seen.share.counted_to ≡ behind pool class slot

-- in a pool
pub record CountedPool (pool : ℕ) (x y : DomainView) : Type 0 where
  pub view : y ≡ with_count x y
  pub next : y.seen.share.counted_to ≡ record { pool = pool + 1; slot = 0 }

-- in all own pools
pub record CountedAll (x y : DomainView) : Type 0 where
  pub view : y ≡ with_count x y
  pub whole : x.own.swept.top ≤ y.seen.share.counted_to.pool

-- the domain with what it has counted added to the live words
abbrev pub adding : DomainView → DomainView
adding x = record x { seen = record x.seen { share = record x.seen.share { added_blocks = true; added_words = true } } }

-- and has added how many blocks that is and how many words these have, each once
pub record CountedLive (x y : DomainView) : Type 0 where
  pub view : y ≡ adding (with_count x y)
  pub whole : x.own.swept.top ≤ y.seen.share.counted_to.pool
  pub added : (y.seen.share.added_blocks ≡ true) × (y.seen.share.added_words ≡ true)
