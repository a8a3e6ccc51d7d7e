-- What the steps that free garbage ask and tell, in the phase Sweep and beside running domains.
use Rattle.std.specs.Prelude.{◌≡◌, ℕ, ◌+◌, ◌<◌, ◌≤◌, ◌⊎◌, ◌∷◌, length, slice_set, Some}
use Rattle.model_core.specs.Domains.{class_count}
use Rattle.model_core.specs.Fronts.{Shape}
use Rattle.heap_words.specs.declared.colours.Colours.{Colours}
use Rattle.heap_rule.specs.declared.config.Config.{Config}
use Rattle.heap_rule.specs.declared.phase.Kind.TheVariants.{Lasts, Run, Sweep}
use Rattle.heap_rule.specs.declared.phase.Stage.{Stage}
use Rattle.heap_rule.specs.declared.phase.Stage.TheVariants.{In}
use Rattle.heap_rule.specs.declared.view.DomainView.{DomainView}
use Rattle.heap_rule.specs.declared.view.Hunt.TheVariants.{Rests}
use Rattle.heap_rule.specs.declared.view.Own.{Own}
use Rattle.heap_rule.specs.declared.view.Reaping.TheVariants.{Inside, AtGarbage}
use Rattle.heap_rule.specs.declared.view.Spot.{Spot}
use Rattle.heap_rule.specs.Places.{IsHeadOf}
use Rattle.heap_rule.specs.Pools.{blocks_of, owned, owner_word, place_in, search_at, freed_at}
use Rattle.heap_rule.specs.Sweeping.{nothing_swept}
use Rattle.step_marks.specs.Marking.Looks.{with_share}
use Rattle.step_pools.specs.Writes.{pool_after}
use Rattle.step_marks.specs.Marking.Marking.{behind}

-- the word is a head of this colour
pub record IsColoured (colour word : ℕ) : Type 0 where
  pub shape : Shape
  pub head : IsHeadOf shape word
  pub colour_is : head.colour ≡ colour

-- where a domain may free garbage: where all do, and as it runs
abbrev pub Frees : Stage → Type 0
Frees stage = (stage ≡ In Sweep) ⊎ (stage ≡ In Run)

-- in Lasts, a load of the meanings of the colours
abbrev pub AnewMay : DomainView → Type 0
AnewMay x = x.seen.stage ≡ In Lasts

-- the domain is to sweep all its pools, and its list of ephemerons
abbrev pub unswept : Own → Own
unswept own = record own { swept = nothing_swept own.swept.top }

abbrev pub AnewTold : DomainView → ℕ → DomainView → Type 0
AnewTold x found y = y ≡ record x { own = unswept x.own }

-- the own data with the next place to be swept
abbrev pub sweeping_from : Own → Spot → Own
sweeping_from own spot = record own { swept = record own.swept { spot = spot } }

-- a load of the owner of the next pool to be swept
pub record SweepOwnMay (k : Config) (x : DomainView) (at pool : ℕ) : Type 0 where
  pub stage : Frees x.seen.stage
  pub inside : pool < k.pools
  pub word : at ≡ 11 + k.pools + pool
  pub next : x.own.swept.spot.pool ≡ pool

-- the word says that the pool is the domain's, and the next place is one of it
abbrev pub IsAmong : ℕ → Own → ℕ → Type 0
IsAmong class own found = (class < class_count) × (found ≡ owner_word (owned own.number class)) × (own.swept.spot.slot < blocks_of class)

-- the domain is in its own pool, or the sweep goes on in the next one, or behind the last one where no own pool is left
pub record SweepOwnTold (k : Config) (pool : ℕ) (x : DomainView) (found : ℕ) (y : DomainView) : Type 0 where
  pub told : ((class : ℕ) × IsAmong class x.own found × (y ≡ with_share x (record x.seen.share { reaping = Inside pool class })))
      ⊎ (((class : ℕ) → IsAmong class x.own found → ⊥) × (y ≡ record x { own = sweeping_from x.own (record { pool = pool_after k.pools x.own.swept.top pool; slot = 0 }) }))

-- what it writes
abbrev pub CanSweepOwn : ℕ → Own → Type 0
CanSweepOwn pool own = pool < 2048

abbrev pub SweepsOwn : ℕ → ℕ → ℕ → Own → Own → Type 0
SweepsOwn pools pool found own after = (((class : ℕ) × IsAmong class own found) × (after ≡ own)) ⊎ (((class : ℕ) → IsAmong class own found → ⊥) × (after ≡ sweeping_from own (record { pool = pool_after pools own.swept.top pool; slot = 0 })))

-- a load of the head at the next place of an own pool
pub record SweepMay (x : DomainView) (at pool class slot garbage : ℕ) : Type 0 where
  pub stage : Frees x.seen.stage
  pub own : x.seen.share.reaping ≡ Inside pool class
  pub few : class < class_count
  pub inside : slot < blocks_of class
  pub word : at ≡ place_in pool class slot
  pub next : x.own.swept.spot ≡ record { pool = pool; slot = slot }
  pub colours : Colours
  pub known : x.seen.share.colours ≡ Some colours
  pub means : garbage ≡ colours.garbage

-- the domain has looked at the place, and the sweep goes on behind it
abbrev pub passed : ℕ → ℕ → ℕ → DomainView → DomainView
passed pool class slot x = record {
  own = sweeping_from x.own (behind pool class slot);
  seen = record x.seen { share = record x.seen.share { reaping = Inside pool class; swept = record { pool = pool; slot = slot } ∷ x.seen.share.swept } };
}

-- no garbage is there, and the sweep goes on; or the domain has found garbage
pub record SweepTold (pool class slot garbage : ℕ) (x : DomainView) (found : ℕ) (y : DomainView) : Type 0 where
  pub told : ((IsColoured garbage found → ⊥) × (y ≡ passed pool class slot x)) ⊎ (IsColoured garbage found × (y ≡ with_share x (record x.seen.share { reaping = AtGarbage pool class slot })))

-- what it writes
abbrev pub CanSweep : ℕ → ℕ → ℕ → Own → Type 0
CanSweep pool class slot own = (pool < 2048) × (class < class_count) × (slot < blocks_of class)

abbrev pub SweepsPlace : ℕ → ℕ → ℕ → ℕ → ℕ → Own → Own → Type 0
SweepsPlace pool class slot garbage found own after = ((IsColoured garbage found → ⊥) × (after ≡ sweeping_from own (behind pool class slot))) ⊎ (IsColoured garbage found × (after ≡ own))

-- a place of the pools doesn't stand behind another
abbrev pub IsNoLater : Spot → Spot → Type 0
IsNoLater a b = (a.pool < b.pool) ⊎ ((a.pool ≡ b.pool) × (a.slot ≤ b.slot))

-- the garbage that the domain has found at the next place is freed. No listed ephemeron is garbage any more
pub record FreeMay (x : DomainView) (at pool class slot : ℕ) : Type 0 where
  pub stage : Frees x.seen.stage
  pub at_rest : x.seen.hunt ≡ Rests
  pub found : x.seen.share.reaping ≡ AtGarbage pool class slot
  pub few : class < class_count
  pub low : slot < blocks_of class
  pub word : at ≡ place_in pool class slot
  pub next : x.own.swept.spot ≡ record { pool = pool; slot = slot }
  pub pruned : length x.own.ephemerons.items ≤ x.own.swept.listed

-- the own data once the place is free: the sweep goes on behind it, and it is free for the search
abbrev pub freed_own : ℕ → ℕ → ℕ → Own → Own
freed_own pool class slot own = record (sweeping_from own (behind pool class slot)) { looked = slice_set own.looked class (freed_at pool slot (search_at own.looked class)) }

abbrev pub freed : ℕ → ℕ → ℕ → DomainView → DomainView
freed pool class slot x = record (passed pool class slot x) { own = freed_own pool class slot x.own }

abbrev pub FreeTold : ℕ → ℕ → ℕ → DomainView → ℕ → DomainView → Type 0
FreeTold pool class slot x found y = y ≡ freed pool class slot x

-- what it writes
abbrev pub CanFree : ℕ → ℕ → ℕ → Own → Type 0
CanFree pool class slot own = (pool < 2048) × (class < class_count) × (slot < blocks_of class) × (length own.looked ≡ class_count)

abbrev pub FreesPlace : ℕ → ℕ → ℕ → Own → Own → Type 0
FreesPlace pool class slot own after = after ≡ freed_own pool class slot own
