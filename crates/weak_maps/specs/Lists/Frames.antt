-- What a call leaves of a machine of one domain, by what it shows.
use Rattle.std.specs.Prelude.{◌≡◌, ◌≤◌, ℕ, ◌+◌, List}
use Rattle.model_core.specs.declared.entry.Entry.{Entry}
use Rattle.model_core.specs.declared.reply.Reply.{Reply}
use Rattle.model_core.specs.declared.state.Sizes.{Sizes}
use Rattle.weak_laws.specs.Tables.Performing.{full_of, is_spared, refusals, writings}
use Rattle.weak_maps.specs.Frames.{Stays}

module _ {M H : Type 0} (z : M → Sizes) (d : M → ℕ) (of : M → H) (front : M → List Entry) (labels_left ephes_room : M → ℕ) (old new : M) where
  -- by a call that makes no block: as many labels are left and no less room, no command was refused, and none wrote a register from 1 to 7
  pub record LeavesAlone : Type 0 where
    pub stays : Stays z d of old new
    pub labels : labels_left new ≡ labels_left old
    pub room : ephes_room old ≤ ephes_room new
    pub given : refusals (front new) ≡ refusals (front old)
    pub written : writings (front new) ≡ writings (front old)

  -- so by a call that writes at most so many times a register from 1 to 7
  pub record ReadsAlone (n : ℕ) : Type 0 where
    pub stays : Stays z d of old new
    pub labels : labels_left new ≡ labels_left old
    pub room : ephes_room old ≤ ephes_room new
    pub given : refusals (front new) ≡ refusals (front old)
    pub written : writings (front new) ≤ writings (front old) + n

  -- by a call that makes a block into a register and answers it, or `full` where its allocation was refused
  pub record AllocatesAlone (dst : ℕ) (r : Reply) : Type 0 where
    pub stays : Stays z d of old new
    pub labels : labels_left old + full_of r ≡ labels_left new + 1
    pub room : ephes_room old ≤ ephes_room new
    pub refused : refusals (front new) ≡ refusals (front old) + full_of r
    pub written : writings (front new) ≡ writings (front old) + is_spared dst

  -- by a put: it makes seven blocks at most and one ephemeron
  pub record PutsAlone (r : Reply) : Type 0 where
    pub stays : Stays z d of old new
    pub labels : labels_left old ≤ labels_left new + 7
    pub room : ephes_room old ≤ ephes_room new + 1
    pub refused : refusals (front new) ≡ refusals (front old) + full_of r
    pub written : writings (front new) ≡ writings (front old)
