-- What a domain has done that has pruned its list of ephemerons.
use Rattle.std.specs.Prelude.{◌≡◌, ℕ, ◌+◌, ◌≤◌, IsTrue, length, Some}
use Rattle.heap_words.specs.declared.colours.Colours.{Colours}
use Rattle.heap_rule.specs.declared.view.DomainView.{DomainView}
use Rattle.heap_rule.specs.Cycles.{seen_by}
use Rattle.step_sweep.specs.Freeing.{Frees}

-- the domain may free garbage, and knows the colours, of which this one means garbage
pub record IsPruning (garbage : ℕ) (x : DomainView) : Type 0 where
  pub stage : Frees x.seen.stage
  pub colours : Colours
  pub known : x.seen.share.colours ≡ Some colours
  pub means : garbage ≡ colours.garbage

-- the domain with what pruning changes as another has it
abbrev pub with_pruned : DomainView → DomainView → DomainView
with_pruned x y = record x { own = record x.own { ephemerons = y.own.ephemerons; swept = record x.own.swept { listed = y.own.swept.listed } } }

-- what is listed was listed before, and there is room for as many more as were taken off the list
pub record Shortens (x y : DomainView) : Type 0 where
  pub among : (a : ℕ) → IsTrue (seen_by y.own.ephemerons.items a) → IsTrue (seen_by x.own.ephemerons.items a)
  pub room : y.own.ephemerons.room + length y.own.ephemerons.items ≡ x.own.ephemerons.room + length x.own.ephemerons.items
  pub no_less : x.own.ephemerons.room ≤ y.own.ephemerons.room

-- the list is pruned: no listed ephemeron is garbage
abbrev pub IsPruned : DomainView → Type 0
IsPruned x = length x.own.ephemerons.items ≤ x.own.swept.listed

-- so far
pub record PrunedOn (garbage : ℕ) (x y : DomainView) : Type 0 where
  pub view : y ≡ with_pruned x y
  pub shortens : Shortens x y
  pub prunes : IsPruning garbage y

-- and then all
pub record PrunedList (x y : DomainView) : Type 0 where
  pub view : y ≡ with_pruned x y
  pub shortens : Shortens x y
  pub pruned : IsPruned y
