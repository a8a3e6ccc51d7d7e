-- What the filling of copies leaves.
use Rattle.std.specs.Prelude.{◌≡◌, ℕ, ◌+◌, ◌≤◌, [], ◌∷◌, drop, length, slice_get, Some}
use Rattle.heap_rule.specs.declared.config.Config.{Config}
use Rattle.heap_rule.specs.declared.view.Copied.{Copied}
use Rattle.heap_rule.specs.declared.view.DomainView.{DomainView}
use Rattle.heap_rule.specs.Places.{Place, extent}
use Rattle.step_promote.specs.Promotion.{Knows}
use Rattle.gc_copy.specs.Working.{Works, Tied, Learns, owed_from, with_claims}

-- the copies up to the i-th are filled
pub record FilledTo (k : Config) (i : ℕ) (x y : DomainView) : Type 0 where
  pub view : y ≡ with_claims x y
  pub works : Works k y
  pub learns : Learns x y
  pub tied : Tied i y
  pub some : i ≤ length y.own.pending.items

-- all copies are
pub record AllFilled (k : Config) (x y : DomainView) : Type 0 where
  pub view : y ≡ with_claims x y
  pub works : Works k y
  pub learns : Learns x y
  pub paid : y.seen.copying.pending ≡ []

-- the i-th copy, of a block of so many values, has its first values
pub record Progress (k : Config) (i : ℕ) (c : Copied) (size filled : ℕ) (x y : DomainView) : Type 0 where
  pub view : y ≡ with_claims x y
  pub works : Works k y
  pub learns : Learns x y
  pub item : slice_get y.own.pending.items i ≡ Some c
  pub pending : y.seen.copying.pending ≡ record { copy = c.copy; source = c.source; filled = filled } ∷ owed_from (drop (i + 1) y.own.pending.items)
  pub place : Place
  pub met : Knows y c.copy ≡ Some place
  pub extent_is : extent place.shape ≡ size + 2
