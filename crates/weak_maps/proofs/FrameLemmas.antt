-- What calls leave one after the other, and what a command leaves that makes no block.
use Rattle.std.proofs.Common.{◌≡◌, ◌∙◌, ◌≤◌, ℕ, ◌+◌, Bool, cond, true, false, List, refl, ap, sym, subst, arith}
use Rattle.model_core.specs.declared.command.Command.{Command}
use Rattle.model_core.specs.declared.command.Command.TheVariants.{Alloc}
use Rattle.model_core.specs.declared.entry.Entry.{Entry}
use Rattle.model_core.specs.declared.reply.Reply.{Reply}
use Rattle.model_core.specs.declared.state.Sizes.{Sizes}
use Rattle.model_core.specs.Counts.Counts.{ephemerons_of, labels_of}
use Rattle.model_core.specs.History.{IsPrefix}
use Rattle.weak_laws.specs.Maps.Calls.{PerformedBy}
use Rattle.weak_laws.specs.Tables.Performing.{full_of, writes}
use Rattle.weak_laws.proofs.OfMaps.FrontLemmas.{prefix_same, prefix_trans}
use Rattle.weak_maps.specs.Beside.{refusals_by, writings_by}
use Rattle.weak_maps.specs.Frames.{Allocates, Leaves, Makes, Puts, Reads, Shows, Spends, Stays}

-- how many labels, room for how many ephemerons and how many registers from 1 to 7 a command may take
abbrev pub takes : Command → ℕ
takes c = labels_of c + ephemerons_of c + writes c

module _ {M H : Type 0} {z : M → Sizes} {d : M → ℕ} {of : M → H} where
  pub stays_same : {a : M} → Stays z d of a a
  stays_same = record { sizes = refl; domain = refl; heap = refl }

  pub stays_trans : {a b c : M} → Stays z d of a b → Stays z d of b c → Stays z d of a c
  stays_trans x y = record { sizes = y.sizes ∙ x.sizes; domain = y.domain ∙ x.domain; heap = y.heap ∙ x.heap }

  -- what was done after a call that left the machine a domain of the same heap
  pub performed_after : {a b : M} {old new : List Entry} {c : Command} {r : Reply} → Stays z d of a b → PerformedBy (z b) (d b) old new c r → PerformedBy (z a) (d a) old new c r
  performed_after {old = old} {new = new} {c = c} {r = r} x p = subst (λ (w : Sizes × ℕ). PerformedBy w.0 w.1 old new c r) (λ i. (x.sizes i, x.domain i)) p

pub makes_is : {M H : Type 0} {z : M → Sizes} {d : M → ℕ} {of : M → H} {front : M → List Entry} {labels : M → ℕ} {made told : Bool} {a b : M} → told ≡ made → Makes z d of front labels a b told → Makes z d of front labels a b made
makes_is {z = z} {d = d} {of = of} {front = front} {labels = labels} {a = a} {b = b} is x = subst (λ (t : Bool). Makes z d of front labels a b t) is x

module _ {M H : Type 0} {z : M → Sizes} {d : M → ℕ} {of : M → H} {front : M → List Entry} {labels room : M → ℕ} where
  pub leaves_same : {a : M} → Leaves z d of front labels room a a
  leaves_same {a = a} = record { stays = stays_same; grows = prefix_same (front a); labels = refl; room = omega arith; given = refl; written = refl }

  pub leaves_trans : {a b c : M} → Leaves z d of front labels room a b → Leaves z d of front labels room b c → Leaves z d of front labels room a c
  leaves_trans {a = a} {b = b} {c = c} x y = record {
    stays = stays_trans x.stays y.stays;
    grows = prefix_trans (front a) (front b) (front c) x.grows y.grows;
    labels = y.labels ∙ x.labels;
    room = omega (arith, x.room, y.room);
    given = subst (λ (n : ℕ). refusals_by n (front c) ≡ refusals_by n (front b)) x.stays.domain y.given ∙ x.given;
    written = subst (λ (n : ℕ). writings_by n (front c) ≡ writings_by n (front b)) x.stays.domain y.written ∙ x.written;
  }

  -- where a register is shown
  pub shows_none : {a b : M} → Shows z d of front labels room a b → Leaves z d of front labels room a b
  shows_none {a = a} x =
      let x_room = x.room in record {
        stays = x.stays;
        grows = subst (λ (h : List Entry). IsPrefix (front a) h) (sym x.front) (prefix_same (front a));
        labels = x.labels;
        room = omega (arith, x_room);
        given = ap (refusals_by (d a)) x.front;
        written = ap (writings_by (d a)) x.front;
      }

  -- a command that makes nothing
  pub spends_reads : {a b : M} {c : Command} {r : Reply} → labels_of c + ephemerons_of c ≡ 0 → Spends z d of front labels room a b c r → Reads z d of front labels room a b (writes c)
  spends_reads none x =
      let x_labels = x.labels in
      let x_room = x.room in
      let x_refused = x.refused in
      let x_given = x.given in
      let x_written = x.written in record {
        stays = x.stays;
        grows = x.grows;
        labels = omega (arith, x_labels, x_given, none);
        room = omega (arith, x_room, none);
        given = omega (arith, x_refused, x_given, none);
        written = omega (arith, x_written);
      }

  -- where a command takes nothing
  pub spends_none : {a b : M} {c : Command} {r : Reply} → takes c ≡ 0 → Spends z d of front labels room a b c r → Leaves z d of front labels room a b
  spends_none none x =
      let less = spends_reads (omega (arith, none)) x in
      let x_written = x.written in record { stays = x.stays; grows = x.grows; labels = less.labels; room = less.room; given = less.given; written = omega (arith, x_written, none) }

  -- a call that writes registers from 1 to 7, between others that write none
  pub leaves_reads : {a b : M} {n : ℕ} → Leaves z d of front labels room a b → Reads z d of front labels room a b n
  leaves_reads x = let w = x.written in record { stays = x.stays; grows = x.grows; labels = x.labels; room = x.room; given = x.given; written = omega (arith, w) }

  pub reads_twice : {a b c : M} {m n : ℕ} → Reads z d of front labels room a b m → Reads z d of front labels room b c n → Reads z d of front labels room a c (m + n)
  reads_twice {a = a} {b = b} {c = c} {n = n} x y =
      let w = x.written in
      let v = subst (λ (e : ℕ). writings_by e (front c) ≤ writings_by e (front b) + n) x.stays.domain y.written in record {
        stays = stays_trans x.stays y.stays;
        grows = prefix_trans (front a) (front b) (front c) x.grows y.grows;
        labels = y.labels ∙ x.labels;
        room = omega (arith, x.room, y.room);
        given = subst (λ (e : ℕ). refusals_by e (front c) ≡ refusals_by e (front b)) x.stays.domain y.given ∙ x.given;
        written = omega (arith, v, w);
      }

  pub reads_most : {a b : M} {m n : ℕ} → m ≤ n → Reads z d of front labels room a b m → Reads z d of front labels room a b n
  reads_most below x = let w = x.written in record { stays = x.stays; grows = x.grows; labels = x.labels; room = x.room; given = x.given; written = omega (arith, w, below) }

  pub reads_after : {a b c : M} {n : ℕ} → Leaves z d of front labels room a b → Reads z d of front labels room b c n → Reads z d of front labels room a c n
  reads_after x y = reads_most (omega arith) (reads_twice (leaves_reads {n = 0} x) y)

  pub reads_then : {a b c : M} {n : ℕ} → Reads z d of front labels room a b n → Leaves z d of front labels room b c → Reads z d of front labels room a c n
  reads_then {n = n} x y = reads_most (omega arith) (reads_twice x (leaves_reads {n = 0} y))

  -- a command that makes a block
  pub spends_allocates : {a b : M} {dst tag fields : ℕ} {r : Reply} → Spends z d of front labels room a b (Alloc dst tag fields) r → Allocates z d of front labels room a b dst r
  spends_allocates x =
      let x_labels = x.labels in
      let x_room = x.room in
      let x_given = x.given in record { stays = x.stays; grows = x.grows; labels = omega (arith, x_labels, x_given); room = omega (arith, x_room); refused = x.refused; written = x.written }

  pub spends_makes : (made : Bool) {a b : M} {c : Command} {r : Reply} → labels_of c ≡ 1 → writes c ≡ 0 → full_of r ≡ cond made 0 1 → Spends z d of front labels room a b c r → Makes z d of front labels a b made
  spends_makes made one none full x =
      let x_labels = x.labels in
      let x_refused = x.refused in
      let x_given = x.given in
      let x_written = x.written in
      let opposite = opposites made in record {
        stays = x.stays;
        grows = x.grows;
        labels = omega (arith, x_labels, x_given, one, full, opposite);
        refused = omega (arith, x_refused, full);
        written = omega (arith, x_written, none);
      }
    where
      opposites : (b : Bool) → cond b 0 1 + cond b 1 0 ≡ 1
      opposites true = refl
      opposites false = refl

  -- a call that makes a block, between others that make none
  pub makes_after : {made : Bool} {a b c : M} → Leaves z d of front labels room a b → Makes z d of front labels b c made → Makes z d of front labels a c made
  makes_after {made = made} {a = a} {b = b} {c = c} x y =
      let x_labels = x.labels in
      let x_given = x.given in
      let y_labels = y.labels in
      let y_refused = subst (λ (e : ℕ). refusals_by e (front c) ≡ refusals_by e (front b) + cond made 0 1) x.stays.domain y.refused in record {
        stays = stays_trans x.stays y.stays;
        grows = prefix_trans (front a) (front b) (front c) x.grows y.grows;
        labels = omega (arith, x_labels, y_labels);
        refused = omega (arith, x_given, y_refused);
        written = subst (λ (e : ℕ). writings_by e (front c) ≡ writings_by e (front b)) x.stays.domain y.written ∙ x.written;
      }

  pub makes_then : {made : Bool} {a b c : M} → Makes z d of front labels a b made → Leaves z d of front labels room b c → Makes z d of front labels a c made
  makes_then {a = a} {b = b} {c = c} x y =
      let x_labels = x.labels in
      let y_labels = y.labels in
      let x_refused = x.refused in
      let y_given = subst (λ (e : ℕ). refusals_by e (front c) ≡ refusals_by e (front b)) x.stays.domain y.given in record {
        stays = stays_trans x.stays y.stays;
        grows = prefix_trans (front a) (front b) (front c) x.grows y.grows;
        labels = omega (arith, x_labels, y_labels);
        refused = omega (arith, x_refused, y_given);
        written = subst (λ (e : ℕ). writings_by e (front c) ≡ writings_by e (front b)) x.stays.domain y.written ∙ x.written;
      }

  module _ {Counts : ℕ → ℕ → ℕ → ℕ → Reply → Type 0} {r : Reply} where
    -- a put that is declined
    pub puts_none : {a b : M} → ((l f : ℕ) → Counts l l f f r) → Leaves z d of front labels room a b → Puts z d of front labels room a b Counts r
    puts_none {a = a} {b = b} counts x =
        let x_room = x.room in record {
          stays = x.stays;
          grows = x.grows;
          counts = subst (λ (w : ℕ × ℕ). Counts (labels a) w.0 (refusals_by (d a) (front a)) w.1 r) (λ i. (sym x.labels i, sym x.given i)) (counts (labels a) (refusals_by (d a) (front a)));
          room = omega (arith, x_room);
          written = x.written;
        }

    -- one that made a leaf, or was refused
    pub puts_made : {made : Bool} {a b : M} → ((l l2 f f2 : ℕ) → l ≡ l2 + cond made 1 0 → f2 ≡ f + cond made 0 1 → Counts l l2 f f2 r) → room a ≤ room b + 1 → Makes z d of front labels a b made → Puts z d of front labels room a b Counts r
    puts_made counts left x = record { stays = x.stays; grows = x.grows; counts = counts _ _ _ _ x.labels x.refused; room = left; written = x.written }

    pub puts_then : {a b c : M} → Puts z d of front labels room a b Counts r → Leaves z d of front labels room b c → Puts z d of front labels room a c Counts r
    puts_then {a = a} {b = b} {c = c} x y =
        let x_room = x.room in
        let y_room = y.room in
        let given = subst (λ (e : ℕ). refusals_by e (front c) ≡ refusals_by e (front b)) x.stays.domain y.given in record {
          stays = stays_trans x.stays y.stays;
          grows = prefix_trans (front a) (front b) (front c) x.grows y.grows;
          counts = subst (λ (w : ℕ × ℕ). Counts (labels a) w.0 (refusals_by (d a) (front a)) w.1 r) (λ i. (sym y.labels i, sym given i)) x.counts;
          room = omega (arith, x_room, y_room);
          written = subst (λ (e : ℕ). writings_by e (front c) ≡ writings_by e (front b)) x.stays.domain y.written ∙ x.written;
        }
