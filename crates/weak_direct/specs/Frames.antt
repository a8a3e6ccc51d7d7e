-- What a call leaves of a domain, by what it shows.
use Rattle.std.specs.Prelude.{◌≡◌, ◌+◌, ◌≤◌, ℕ, List}
use Rattle.model_core.specs.declared.command.Command.{Command}
use Rattle.model_core.specs.declared.entry.Entry.{Entry}
use Rattle.model_core.specs.declared.reply.Reply.{Reply}
use Rattle.model_core.specs.declared.state.Sizes.{Sizes}
use Rattle.model_core.specs.Fronts.{IsFrontOf}
use Rattle.weak_laws.specs.Tables.Performing.{full_of, is_spared}
use Rattle.weak_laws.specs.Maps.Calls.{PerformedBy}
use Rattle.weak_maps.specs.Beside.{Refuses, Writes, refusals_by}
use Rattle.weak_maps.specs.Frames.{Stays}
use Rattle.weak_maps.specs.Returns.{MakeReturns}
use Rattle.weak_maps.specs.Walks.{OwnQuiet}
use Rattle.weak_direct.specs.Tries.{Passes, Strides}

-- a domain was looked at, and is as it was
pub record Shows {M H : Type 0} (z : M → Sizes) (d : M → ℕ) (of : M → H) (front : M → List Entry) (labels_left ephes_room : M → ℕ) (old new : M) : Type 0 where
  pub stays : Stays z d of old new
  pub front_is : front new ≡ front old
  pub labels : labels_left new ≡ labels_left old
  pub room : ephes_room new ≡ ephes_room old

-- a call that makes no block: it stays the domain that it is, with as many labels left and no less room
pub record Keeps {M H : Type 0} (z : M → Sizes) (d : M → ℕ) (of : M → H) (labels_left ephes_room : M → ℕ) (old new : M) : Type 0 where
  pub stays : Stays z d of old new
  pub labels : labels_left new ≡ labels_left old
  pub room : ephes_room old ≤ ephes_room new

-- and where none of its commands was refused, and none wrote a register but 8 to 11
pub record Goes {M H : Type 0} (z : M → Sizes) (d : M → ℕ) (of : M → H) (front : M → List Entry) (labels_left ephes_room : M → ℕ) (old new : M) : Type 0 where
  pub keeps : Keeps z d of labels_left ephes_room old new
  pub passes : Passes (z old) (d old) (front old) (front new)

-- and none wrote a block
pub record Looks {M H : Type 0} (z : M → Sizes) (d : M → ℕ) (of : M → H) (front : M → List Entry) (labels_left ephes_room : M → ℕ) (old new : M) : Type 0 where
  pub goes : Goes z d of front labels_left ephes_room old new
  pub quiet : OwnQuiet (z old) (d old) (front old) (front new)

-- a call that makes blocks: it takes at most so many labels, and room for so many ephemerons
pub record Spends {M H : Type 0} (z : M → Sizes) (d : M → ℕ) (of : M → H) (front : M → List Entry) (labels_left ephes_room : M → ℕ) (blocks ephes : ℕ) (old new : M) : Type 0 where
  pub stays : Stays z d of old new
  pub lost : labels_left old ≤ labels_left new + blocks
  pub room : ephes_room old ≤ ephes_room new + ephes
  pub strides : Strides (z old) (d old) (front old) (front new)

-- an allocation was made, or refused
pub record Allocates {M : Type 0} (z : M → Sizes) (d : M → ℕ) (front : M → List Entry) (labels_left : M → ℕ) (old new : M) (c : Command) (r : Reply) : Type 0 where
  pub labels : labels_left old + full_of r ≡ labels_left new + 1
  pub refused : refusals_by (d old) (front new) ≡ refusals_by (d old) (front old) + full_of r
  pub performed : PerformedBy (z old) (d old) (front old) (front new) c r

-- so that of a map
pub record MakesMap {M : Type 0} (z : M → Sizes) (d : M → ℕ) (front : M → List Entry) (labels_left : M → ℕ) (old new : M) (dst : ℕ) (r : Reply) : Type 0 where
  pub labels : labels_left old + full_of r ≡ labels_left new + 1
  pub refused : Refuses (d old) (front old) (front new) (full_of r)
  pub written : Writes (d old) (front old) (front new) (is_spared dst)
  pub made : MakeReturns (z old) (d old) (front old) (front new) dst r

-- a command was put off: the domain has made no entry
pub record PutsOff {M : Type 0} (d : M → ℕ) (front : M → List Entry) (labels_left : M → ℕ) (old new : M) : Type 0 where
  pub left : labels_left new ≡ labels_left old
  pub front_is : IsFrontOf (d old) (front new) (front old)
