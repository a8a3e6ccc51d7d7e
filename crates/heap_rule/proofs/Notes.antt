-- A step that leaves a note, and all else as it was.
use Rattle.std.proofs.Common.{◌≡◌, ℕ, zero, suc, List, [], ◌∷◌, ◌++◌, Option, Some, set, sym, refl, ap, inl, ◌∙◌}
use mathlib.Core.Option.{some, some-ne-none}
use lib.ListN.{get_elem?}
use Rattle.model_core.specs.declared.entry.Entry.{Entry}
use Rattle.heap_rule.specs.declared.config.Config.{Config}
use Rattle.heap_rule.specs.declared.phase.Note.{Note}
use Rattle.heap_rule.specs.declared.phase.Note.TheVariants.{Want, Changed, Listed, Asked, Barrier, Ended, Cleared, SetBack}
use Rattle.heap_rule.specs.declared.view.DomainView.{DomainView}
use Rattle.heap_rule.specs.Phases.{HasSetBack, TookBack, last_note}
use Rattle.heap_rule.specs.Rule.{Account, Good, Rule}
use Rattle.heap_rule.specs.Standing.{noted}
use Rattle.heap_rule.specs.Views.{one}
use Rattle.heap_rule.proofs.Controls.{last_note_end}
use Rattle.heap_rule.proofs.Keeps.{Words, hunter_as, knows_front, my_good, owes_as, remakes}

-- the note says neither that the wishes were taken back nor that the cursor was set back
pub record IsLook (n : Note) : Type 0 where
  pub not_cleared : ◌≡◌ {A = Option Note} (Some n) (Some Cleared) → ⊥
  pub not_set_back : ◌≡◌ {A = Option Note} (Some n) (Some SetBack) → ⊥

-- then whoever leaves it hasn't just taken them back, nor set the cursor back
pub noted_otherwise : (words : List ℕ) (y : DomainView) (notes : List Note) (n : Note) → y.seen.notes ≡ notes ++ n ∷ [] → IsLook n → TookBack words y
noted_otherwise words y notes n is other kind leads last = absurd (other.not_cleared (sym (ap last_note is ∙ last_note_end notes n) ∙ last))

pub noted_elsewhere : (y : DomainView) (notes : List Note) (n : Note) → y.seen.notes ≡ notes ++ n ∷ [] → IsLook n → HasSetBack y → ⊥
noted_elsewhere y notes n is other back = other.not_set_back (sym (ap last_note is ∙ last_note_end notes n) ∙ back.1)

pub want_note : (n : ℕ) → IsLook (Want n)
want_note n = record { not_cleared = λ e. cc; not_set_back = λ e. cc }

pub changed_note : (n : ℕ) → IsLook (Changed n)
changed_note n = record { not_cleared = λ e. cc; not_set_back = λ e. cc }

pub listed_note : (n : ℕ) → IsLook (Listed n)
listed_note n = record { not_cleared = λ e. cc; not_set_back = λ e. cc }

pub asked_note : (n : ℕ) → IsLook (Asked n)
asked_note n = record { not_cleared = λ e. cc; not_set_back = λ e. cc }

pub barrier_note : (n : ℕ) → IsLook (Barrier n)
barrier_note n = record { not_cleared = λ e. cc; not_set_back = λ e. cc }

pub ended_note : (n : ℕ) → IsLook (Ended n)
ended_note n = record { not_cleared = λ e. cc; not_set_back = λ e. cc }

-- what the rule says of a domain it says of it once it has left such a note
pub good_noted : (k : Config) (all : Account) (words : List ℕ) (x : DomainView) (n : Note) → IsLook n → Good k all words x → Good k all words (noted x n)
good_noted k all words x n look g =
    let y : DomainView = noted x n in record {
      stood = record { wide = g.stood.wide; each = g.stood.each; serial = g.stood.serial; enrolled = g.stood.enrolled };
      area = record { room = g.area.room; free = g.area.free; classes = g.area.classes };
      making = record { fits = g.making.fits; written = g.making.written };
      staged = record { arrivals = g.staged.arrivals; stage = g.staged.stage };
      still = g.still;
      hunter = hunter_as k all.tenancy words x y refl refl refl refl refl refl refl g.hunter;
      resting = record { hunt = g.resting.hunt; free = g.resting.free; spare = g.resting.spare; lists = g.resting.lists };
      took_back = noted_otherwise words y x.seen.notes n refl look;
      owes = owes_as k all.live x y refl refl refl refl g.owes;
      rooted = g.rooted;
      set_back = λ back. absurd (noted_elsewhere y x.seen.notes n refl look back);
      sharing = g.sharing;
      listed = g.listed;
      sweeps = g.sweeps;
    }

-- a load leaves such a note
pub noted_rule : (k : Config) (s : Words) (r : Rule k s) (id : ℕ) (hist : List Entry) (x : DomainView) (at : get_elem? s.views id ≡ some (one k hist x)) (n : Note) → IsLook n → Rule k record { words = s.words; homes = s.homes; views = set s.views id (one k hist (noted x n)) }
noted_rule k s r id hist x at n look =
    let y : DomainView = noted x n in
    remakes k s r id hist x at y r.account s.words r.whole (knows_front k s r id hist x at y refl (inl refl)) (good_noted k r.account s.words x n look (my_good k s r id hist x at)) (λ z _ _ g. g)

-- a seat that is changed twice has what was written last
pub set_twice : {A : Type 0} (l : List A) (i : ℕ) (a b : A) → set (set l i a) i b ≡ set l i b
set_twice [] i a b = refl
set_twice (x ∷ xs) zero a b = refl
set_twice (x ∷ xs) (suc i) a b = ap (λ (ys : List _). x ∷ ys) (set_twice xs i a b)

pub set_there : {A : Type 0} (l : List A) (i : ℕ) (a b : A) → get_elem? l i ≡ some a → get_elem? (set l i b) i ≡ some b
set_there [] i a b e = absurd (some-ne-none a (sym e))
set_there (x ∷ xs) zero a b e = refl
set_there (x ∷ xs) (suc i) a b e = set_there xs i a b e
