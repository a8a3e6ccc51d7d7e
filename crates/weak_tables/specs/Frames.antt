-- What a call leaves of a machine, by what it shows.
use Rattle.std.specs.Prelude.{◌≡◌, ℕ, ◌+◌, ◌≤◌, List}
use Rattle.model_core.specs.declared.entry.Entry.{Entry}
use Rattle.model_core.specs.declared.state.Sizes.{Sizes}
use Rattle.weak_laws.specs.Tables.Performing.{refusals, writings}

-- a call that makes no block: the numbers are as they were, as many labels are left, and no less room
pub record Keeps {M : Type 0} (z : M → Sizes) (labels_left ephes_room : M → ℕ) (old new : M) : Type 0 where
  pub sizes : z new ≡ z old
  pub labels : labels_left new ≡ labels_left old
  pub room : ephes_room old ≤ ephes_room new

-- and where no command was refused, and none wrote a register from 1 to 7
pub record Passes {M : Type 0} (z : M → Sizes) (front : M → List Entry) (labels_left ephes_room : M → ℕ) (old new : M) : Type 0 where
  pub keeps : Keeps z labels_left ephes_room old new
  pub given : refusals (front new) ≡ refusals (front old)
  pub written : writings (front new) ≡ writings (front old)

-- a call that makes blocks: it takes at most so many labels, and room for so many ephemerons
pub record Spends {M : Type 0} (z : M → Sizes) (labels_left ephes_room : M → ℕ) (blocks ephes : ℕ) (old new : M) : Type 0 where
  pub sizes : z new ≡ z old
  pub labels : labels_left old ≤ labels_left new + blocks
  pub room : ephes_room old ≤ ephes_room new + ephes
