-- What a call leaves of a machine, by what it shows.
use Rattle.std.specs.Prelude.{◌≡◌, ◌≤◌, ℕ, ◌+◌, Bool, cond, List}
use Rattle.model_core.specs.declared.command.Command.{Command}
use Rattle.model_core.specs.declared.entry.Entry.{Entry}
use Rattle.model_core.specs.declared.reply.Reply.{Reply}
use Rattle.model_core.specs.declared.state.Sizes.{Sizes}
use Rattle.model_core.specs.History.{IsPrefix}
use Rattle.model_core.specs.Counts.Counts.{ephemerons_of, labels_given, labels_of}
use Rattle.weak_laws.specs.Tables.Performing.{full_of, is_spared, writes}
use Rattle.weak_maps.specs.Beside.{Refuses, Writes, WritesAtMost, refusals_by, writings_by}

-- it stays a domain of the same number, of the same heap with the same numbers
pub record Stays {M H : Type 0} (z : M → Sizes) (d : M → ℕ) (of : M → H) (old new : M) : Type 0 where
  pub sizes : z new ≡ z old
  pub domain : d new ≡ d old
  pub heap : of new ≡ of old

module _ {M H : Type 0} (z : M → Sizes) (d : M → ℕ) (of : M → H) (seen : M → List Entry) (labels_left ephes_room : M → ℕ) (old new : M) where
  -- so where a register is shown: no entry is made
  pub record Shows : Type 0 where
    pub stays : Stays z d of old new
    pub front : seen new ≡ seen old
    pub labels : labels_left new ≡ labels_left old
    pub room : ephes_room new ≡ ephes_room old

  -- so by a call that makes no block: what the domain has seen of the history is only added to, as many labels are left and no less room, none of its commands was refused, and none wrote a register from 1 to 7
  pub record Leaves : Type 0 where
    pub stays : Stays z d of old new
    pub grows : IsPrefix (seen old) (seen new)
    pub labels : labels_left new ≡ labels_left old
    pub room : ephes_room old ≤ ephes_room new
    pub given : refusals_by (d old) (seen new) ≡ refusals_by (d old) (seen old)
    pub written : writings_by (d old) (seen new) ≡ writings_by (d old) (seen old)

  -- so by a call that writes at most so many times a register from 1 to 7
  pub record Reads (n : ℕ) : Type 0 where
    pub stays : Stays z d of old new
    pub grows : IsPrefix (seen old) (seen new)
    pub labels : labels_left new ≡ labels_left old
    pub room : ephes_room old ≤ ephes_room new
    pub given : refusals_by (d old) (seen new) ≡ refusals_by (d old) (seen old)
    pub written : WritesAtMost (d old) (seen old) (seen new) n

  -- so by a command: one more of the domain is refused exactly where it is answered `full`, and an allocation gives out a label or is
  pub record Spends (c : Command) (r : Reply) : Type 0 where
    pub stays : Stays z d of old new
    pub grows : IsPrefix (seen old) (seen new)
    pub labels : labels_left old ≡ labels_left new + labels_given c r
    pub room : ephes_room old ≤ ephes_room new + ephemerons_of c
    pub refused : Refuses (d old) (seen old) (seen new) (full_of r)
    pub given : labels_given c r + full_of r ≡ labels_of c
    pub written : Writes (d old) (seen old) (seen new) (writes c)

  -- so by a call that makes a block into a register and answers it, or `full` where its allocation was refused
  pub record Allocates (dst : ℕ) (r : Reply) : Type 0 where
    pub stays : Stays z d of old new
    pub grows : IsPrefix (seen old) (seen new)
    pub labels : labels_left old + full_of r ≡ labels_left new + 1
    pub room : ephes_room old ≤ ephes_room new
    pub refused : Refuses (d old) (seen old) (seen new) (full_of r)
    pub written : Writes (d old) (seen old) (seen new) (is_spared dst)

  -- so by a put: labels and refusals are counted as its answer tells, and there is room for one ephemeron less at most
  pub record Puts (Counts : ℕ → ℕ → ℕ → ℕ → Reply → Type 0) (r : Reply) : Type 0 where
    pub stays : Stays z d of old new
    pub grows : IsPrefix (seen old) (seen new)
    pub counts : Counts (labels_left old) (labels_left new) (refusals_by (d old) (seen old)) (refusals_by (d old) (seen new)) r
    pub room : ephes_room old ≤ ephes_room new + 1
    pub written : writings_by (d old) (seen new) ≡ writings_by (d old) (seen old)

-- so by a call that makes one block, or none where its allocation was refused
pub record Makes {M H : Type 0} (z : M → Sizes) (d : M → ℕ) (of : M → H) (seen : M → List Entry) (labels_left : M → ℕ) (old new : M) (made : Bool) : Type 0 where
  pub stays : Stays z d of old new
  pub grows : IsPrefix (seen old) (seen new)
  pub labels : labels_left old ≡ labels_left new + cond made 1 0
  pub refused : refusals_by (d old) (seen new) ≡ refusals_by (d old) (seen old) + cond made 0 1
  pub written : writings_by (d old) (seen new) ≡ writings_by (d old) (seen old)
