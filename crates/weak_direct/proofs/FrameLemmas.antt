-- What calls leave of a domain one after another.
use Rattle.std.proofs.Common.{◌≡◌, ℕ, ◌+◌, ◌≤◌, List, Option, None, refl, ◌∙◌, subst, arith}
use Rattle.model_core.specs.declared.command.Command.{Command}
use Rattle.model_core.specs.declared.entry.Entry.{Entry}
use Rattle.model_core.specs.declared.label.Label.{Label}
use Rattle.model_core.specs.declared.reply.Reply.{Reply}
use Rattle.model_core.specs.declared.state.Sizes.{Sizes}
use Rattle.model_core.specs.Fronts.{IsFrontOf}
use Rattle.weak_laws.specs.Tables.Performing.{writes}
use Rattle.weak_laws.specs.Maps.Calls.{PerformedBy}
use Rattle.weak_laws.proofs.OfTables.StageLemmas.{prefix_trans}
use Rattle.weak_maps.specs.Beside.{refusals_by}
use Rattle.weak_maps.specs.Frames.{Stays}
use Rattle.weak_maps.specs.Guards.{Guards}
use Rattle.weak_maps.specs.Walks.{OwnQuiet}
use Rattle.weak_maps.proofs.GuardLemmas.{guards_quiet, guards_twice, quiet_at, quiet_same, quiet_twice}
use Rattle.weak_maps.proofs.MachineLemmas.{at_machine}
use Rattle.weak_direct.specs.Frames.{Goes, Keeps, Looks, Shows, Spends}
use Rattle.weak_direct.specs.Tries.{EndsBy, IsLast, Passes, Reads, TriedBy}
use Rattle.weak_direct.proofs.AllocLemmas.{passes_strides, strides_at, strides_twice}
use Rattle.weak_direct.proofs.StepLemmas.{last_given, last_quiet, last_written, off_passes, off_quiet, passes_after, passes_from, passes_same, quiet_after, tried_grows}

-- the last command was put off
pub reads_off : (z : Sizes) (d most : ℕ) (old new : List Entry) → IsFrontOf d new old → Reads z d most old new
reads_off z d most old new f =
    let x = off_passes z d old new f in
    record { grows = x.grows; given = x.given; written = (let same = x.written in omega (arith, same)); quiet = off_quiet z d old new f }

module _ {M H : Type 0} {z : M → Sizes} {d : M → ℕ} {of : M → H} where
  pub stays_on : {a b c : M} → Stays z d of a b → Stays z d of b c → Stays z d of a c
  stays_on x y = record { sizes = y.sizes ∙ x.sizes; domain = y.domain ∙ x.domain; heap = y.heap ∙ x.heap }

  -- a command that a later domain tells of, as the first has its number and its heap's numbers
  pub performed_on : {a b : M} {old new : List Entry} {c : Command} {r : Reply} → Stays z d of a b → PerformedBy (z b) (d b) old new c r → PerformedBy (z a) (d a) old new c r
  performed_on {a} {b} {old} {new} {c} {r} x p = at_machine (z a) (z b) (d a) (d b) old new c r x.sizes x.domain p

  pub given_on : {a b : M} → Stays z d of a b → (old new : List Entry) → refusals_by (d b) new ≡ refusals_by (d b) old → refusals_by (d a) new ≡ refusals_by (d a) old
  given_on x old new same = subst (λ (e : ℕ). refusals_by e new ≡ refusals_by e old) x.domain same

  module _ {labels_left ephes_room : M → ℕ} where
    pub keeps_on : {a b c : M} → Keeps z d of labels_left ephes_room a b → Keeps z d of labels_left ephes_room b c → Keeps z d of labels_left ephes_room a c
    keeps_on x y = record { stays = stays_on x.stays y.stays; labels = y.labels ∙ x.labels; room = (let r = x.room in let s = y.room in omega (arith, r, s)) }

    module _ {front : M → List Entry} where
      pub goes_on : {a b c : M} → Goes z d of front labels_left ephes_room a b → Goes z d of front labels_left ephes_room b c → Goes z d of front labels_left ephes_room a c
      goes_on {a} {b} {c} x y = record { keeps = keeps_on x.keeps y.keeps; passes = passes_after (z a) (z b) (d a) (d b) (front a) (front b) (front c) x.keeps.stays.sizes x.keeps.stays.domain x.passes y.passes }

      pub looks_on : {a b c : M} → Looks z d of front labels_left ephes_room a b → Looks z d of front labels_left ephes_room b c → Looks z d of front labels_left ephes_room a c
      looks_on {a} {b} {c} x y =
          let stays = x.goes.keeps.stays in
          record { goes = goes_on x.goes y.goes; quiet = quiet_after (z a) (z b) (d a) (d b) (front a) (front b) (front c) stays.sizes stays.domain y.goes.passes.grows x.quiet y.quiet }

      -- the domain is looked at
      pub looks_same : {a b : M} → Shows z d of front labels_left ephes_room a b → Looks z d of front labels_left ephes_room a b
      looks_same {a} {b} x = record {
        goes = record { keeps = record { stays = x.stays; labels = x.labels; room = (let r = x.room in omega (arith, r)) }; passes = passes_same (z a) (d a) (front a) (front b) x.front_is };
        quiet = quiet_same (z a) (d a) (front a) (front b) x.front_is;
      }

      pub looks_none : (a : M) → Looks z d of front labels_left ephes_room a a
      looks_none a = looks_same (record { stays = record { sizes = refl; domain = refl; heap = refl }; front_is = refl; labels = refl; room = refl })

      -- no block was written in a stretch, by a command that writes none or that was put off
      pub looks_of : {a b : M} → Goes z d of front labels_left ephes_room a b → OwnQuiet (z a) (d a) (front a) (front b) → Looks z d of front labels_left ephes_room a b
      looks_of goes quiet = record { goes = goes; quiet = quiet }

      -- no block was written in a stretch, as the first domain tells it
      pub quiet_on : {a b c : M} → Stays z d of a b → Looks z d of front labels_left ephes_room b c → OwnQuiet (z a) (d a) (front b) (front c)
      quiet_on {a} {b} {c} x y = quiet_at (z a) (z b) (d a) (d b) (front b) (front c) x.sizes x.domain y.quiet

      -- behind such a stretch a map is guarded still
      pub guards_on : {a b c : M} {root : Label} {first : List Entry} → Stays z d of a b → Guards (z a) root (d a) first first (front b) → Looks z d of front labels_left ephes_room b c → Guards (z a) root (d a) first first (front c)
      guards_on {a} {b} {c} {root} {first} x guards y = guards_twice (z a) root (d a) first first (front b) (front c) y.goes.passes.grows guards (guards_quiet (z a) root (d a) first (front b) (front c) (quiet_on x y))

      -- the last command of a call was made, and registers were emptied behind it
      module _ {a b c : M} (stays : Stays z d of a b) (looks : Looks z d of front labels_left ephes_room b c) where
        emptied : Passes (z a) (d a) (front b) (front c)
        emptied = passes_from (z a) (z b) (d a) (d b) (front b) (front b) (front c) stays.sizes stays.domain refl looks.goes.passes

        pub ends_made : {command : Command} {r : Reply} → PerformedBy (z a) (d a) (front a) (front b) command r → EndsBy (z a) (d a) (front a) (front c) command r
        ends_made p = record { made = front b; performed = p; passes = emptied; quiet = quiet_on stays looks }

        pub reads_last : (command : Command) → IsLast command → (o : Option Reply) → TriedBy (z a) (d a) (front a) (front b) command o → Reads (z a) (d a) (writes command) (front a) (front c)
        reads_last command last o tried = record {
          grows = prefix_trans (front a) (front b) (front c) (tried_grows (z a) (d a) (front a) (front b) command o tried) looks.goes.passes.grows;
          given = last_given (z a) (d a) (front a) (front b) (front c) command last emptied (quiet_on stays looks) o tried;
          written = last_written (z a) (d a) (front a) (front b) (front c) command last emptied (quiet_on stays looks) o tried;
          quiet = last_quiet (z a) (d a) (front a) (front b) (front c) command last emptied (quiet_on stays looks) o tried;
        }

      -- a stretch that changes no block, and another that reads
      pub reads_on : {a b c : M} {most : ℕ} → Looks z d of front labels_left ephes_room a b → Reads (z b) (d b) most (front b) (front c) → Reads (z a) (d a) most (front a) (front c)
      reads_on {a} {b} {c} {most} x y =
          let stays = x.goes.keeps.stays in
          let y1 : Reads (z a) (d a) most (front b) (front c) = subst (λ (w : Sizes × ℕ). Reads w.0 w.1 most (front b) (front c)) (λ i. (stays.sizes i, stays.domain i)) y in
          let passes = x.goes.passes in
          record {
            grows = prefix_trans (front a) (front b) (front c) passes.grows y.grows;
            given = y1.given ∙ passes.given;
            written = (let first = passes.written in let last = y1.written in omega (arith, first, last));
            quiet = quiet_twice (z a) (d a) (front a) (front b) (front c) y.grows x.quiet y1.quiet;
          }

      pub looks_reads : {a b : M} (most : ℕ) → Looks z d of front labels_left ephes_room a b → Reads (z a) (d a) most (front a) (front b)
      looks_reads most x = record { grows = x.goes.passes.grows; given = x.goes.passes.given; written = (let same = x.goes.passes.written in omega (arith, same)); quiet = x.quiet }

      -- a call that makes no block takes no label
      pub goes_spends : {a b : M} (blocks ephes : ℕ) → Goes z d of front labels_left ephes_room a b → Spends z d of front labels_left ephes_room blocks ephes a b
      goes_spends {a} {b} blocks ephes x = record {
        stays = x.keeps.stays;
        lost = (let l = x.keeps.labels in omega (arith, l));
        room = (let r = x.keeps.room in omega (arith, r));
        strides = passes_strides (z a) (d a) (front a) (front b) x.passes;
      }

      pub spends_both : {n m i j : ℕ} {a b c : M} → Spends z d of front labels_left ephes_room n i a b → Spends z d of front labels_left ephes_room m j b c → Spends z d of front labels_left ephes_room (n + m) (i + j) a c
      spends_both {n} {m} {i} {j} {a} {b} {c} x y = record {
        stays = stays_on x.stays y.stays;
        lost = (let l = x.lost in let k = y.lost in omega (arith, l, k));
        room = (let r = x.room in let s = y.room in omega (arith, r, s));
        strides = strides_twice (z a) (d a) (front a) (front b) (front c) x.strides (strides_at (z a) (z b) (d a) (d b) (front b) (front c) x.stays.sizes x.stays.domain y.strides);
      }

      pub spends_more : {n m i j : ℕ} {a b : M} → n ≤ m → i ≤ j → Spends z d of front labels_left ephes_room n i a b → Spends z d of front labels_left ephes_room m j a b
      spends_more few less x = record { stays = x.stays; lost = (let l = x.lost in omega (arith, l, few)); room = (let r = x.room in omega (arith, r, less)); strides = x.strides }

      pub spends_on : {n i : ℕ} {a b c : M} → Spends z d of front labels_left ephes_room n i a b → Goes z d of front labels_left ephes_room b c → Spends z d of front labels_left ephes_room n i a c
      spends_on {n} {i} x y = spends_more {n = n + 0} {i = i + 0} (omega arith) (omega arith) (spends_both x (goes_spends 0 0 y))

      pub spends_behind : {n i : ℕ} {a b c : M} → Goes z d of front labels_left ephes_room a b → Spends z d of front labels_left ephes_room n i b c → Spends z d of front labels_left ephes_room n i a c
      spends_behind {n} {i} x y = spends_more {n = 0 + n} {i = 0 + i} (omega arith) (omega arith) (spends_both (goes_spends 0 0 x) y)
