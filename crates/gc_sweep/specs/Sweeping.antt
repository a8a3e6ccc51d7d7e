-- What a domain has done that has swept own pools.
use Rattle.std.specs.Prelude.{◌≡◌, ℕ, ◌<◌, ◌≤◌, ◌⊎◌, List, ◌++◌, length, Some}
use Rattle.model_core.specs.Domains.{class_count}
use Rattle.heap_words.specs.declared.colours.Colours.{Colours}
use Rattle.heap_rule.specs.declared.config.Config.{Config}
use Rattle.heap_rule.specs.declared.view.DomainView.{DomainView}
use Rattle.heap_rule.specs.declared.view.Hunt.TheVariants.{Rests}
use Rattle.heap_rule.specs.declared.view.Reaping.TheVariants.{Inside}
use Rattle.heap_rule.specs.declared.view.Spot.{Spot}
use Rattle.heap_rule.specs.Pools.{blocks_of, place_of, search_at}
use Rattle.step_marks.specs.Marking.Marking.{behind}
use Rattle.step_sweep.specs.Freeing.{Frees, IsNoLater}
use Rattle.gc_sweep.specs.Pruning.{IsPruned, Shortens}
use Rattle.gc_sweep.specs.Walks.{IsWalk}

-- the domain may free garbage, knows its colour, takes no block of the pools, and has pruned its list of ephemerons
pub record IsSweeping (garbage : ℕ) (x : DomainView) : Type 0 where
  pub stage : Frees x.seen.stage
  pub at_rest : x.seen.hunt ≡ Rests
  pub colours : Colours
  pub known : x.seen.share.colours ≡ Some colours
  pub means : garbage ≡ colours.garbage
  pub pruned : IsPruned x

-- the next place to be swept is this one, of an own pool
pub record SweepsAt (x : DomainView) (pool class slot : ℕ) : Type 0 where
  pub own : x.seen.share.reaping ≡ Inside pool class
  pub few : class < class_count
  pub inside : slot < blocks_of class
  pub next : x.own.swept.spot ≡ record { pool = pool; slot = slot }

-- the domain with what sweeping changes as another has it
abbrev pub with_sweep : DomainView → DomainView → DomainView
with_sweep x y = record x {
  own = record x.own { looked = y.own.looked; ephemerons = y.own.ephemerons; swept = y.own.swept };
  seen = record x.seen { share = record x.seen.share { colours = y.seen.share.colours; reaping = y.seen.share.reaping; swept = y.seen.share.swept } };
}

-- the next search for a free place of a class begins where it would have begun before, or earlier
abbrev pub LooksAgain : DomainView → DomainView → Type 0
LooksAgain x y = (class : ℕ) → IsNoLater (place_of (search_at y.own.looked class)) (place_of (search_at x.own.looked class))

-- so many places were swept, each of them once, and no place before the next one that wasn't in an own pool
pub record SweptOn (x y : DomainView) (count : ℕ) : Type 0 where
  pub places : List Spot
  pub many : length places ≡ count
  pub swept : y.seen.share.swept ≡ places ++ x.seen.share.swept
  pub walk : IsWalk x.own.swept.spot places y.own.swept.spot

-- some steps of sweeping, by which the domain keeps the colours and its list of ephemerons
pub record Sweeps (x y : DomainView) (count : ℕ) : Type 0 where
  pub view : y ≡ with_sweep x y
  pub colours : y.seen.share.colours ≡ x.seen.share.colours
  pub ephemerons : y.own.ephemerons ≡ x.own.ephemerons
  pub listed : y.own.swept.listed ≡ x.own.swept.listed
  pub looked : LooksAgain x y
  pub on : SweptOn x y count

-- the sweep has got further: it has swept places, or gone on to a later pool
abbrev pub Onward : DomainView → DomainView → ℕ → Type 0
Onward x y count = (0 < count) ⊎ (x.own.swept.spot.pool < y.own.swept.spot.pool)

-- it has swept a place
pub record SweptPlace (pool class slot : ℕ) (x y : DomainView) : Type 0 where
  pub sweeps : Sweeps x y 1
  pub own : y.seen.share.reaping ≡ Inside pool class
  pub next : y.own.swept.spot ≡ behind pool class slot

-- It has swept at most so many places, and fewer only where no own pool is left to be swept. Before it frees any it takes what is garbage off its list of ephemerons
pub record Swept (k : Config) (most count : ℕ) (x y : DomainView) : Type 0 where
  pub view : y ≡ with_sweep x y
  pub shortens : Shortens x y
  pub looked : LooksAgain x y
  pub on : SweptOn x y count
  pub few : count ≤ most
  pub rest : count < most → k.pools ≤ y.own.swept.spot.pool

-- and all
pub record SweptAll (k : Config) (x y : DomainView) : Type 0 where
  pub view : y ≡ with_sweep x y
  pub shortens : Shortens x y
  pub looked : LooksAgain x y
  pub places : List Spot
  pub swept : y.seen.share.swept ≡ places ++ x.seen.share.swept
  pub walk : IsWalk x.own.swept.spot places y.own.swept.spot
  pub done : k.pools ≤ y.own.swept.spot.pool
