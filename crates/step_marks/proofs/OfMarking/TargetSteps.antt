-- A load of the head of a block that there is a reason to mark keeps the rule.
use Rattle.std.proofs.Common.{◌≡◌, ℕ, ◌+◌, true, false, IsTrue, List, set, Some, sym, refl, subst, inl, inr, ⊎_elim}
use mathlib.Core.Option.{some}
use lib.ListN.{get_elem?}
use Rattle.model_core.specs.declared.entry.Entry.{Entry}
use Rattle.heap_rule.specs.declared.config.Config.{Config}
use Rattle.heap_rule.specs.declared.view.DomainView.{DomainView}
use Rattle.heap_rule.specs.declared.view.FoundHead.{FoundHead}
use Rattle.heap_rule.specs.declared.view.Share.{Share}
use Rattle.heap_rule.specs.Layout.{before_heap, at_address}
use Rattle.heap_rule.specs.Places.{Place}
use Rattle.heap_rule.specs.Cycles.{IsCollecting, Facts}
use Rattle.heap_rule.specs.Raw.{MayStep}
use Rattle.heap_rule.specs.Rule.{Rule, state_of}
use Rattle.heap_rule.specs.Views.{one}
use Rattle.heap_rule.proofs.Keeps.{Words, my_good}
use Rattle.step_marks.specs.Marking.Looks.{with_share}
use Rattle.step_marks.specs.Marking.Marking.{TargetMay, TargetTold, Reason, Register, Field, OfDatum, OfQueue, Warrants, moved_on, waiting_on}
use Rattle.step_marks.proofs.OfMarking.Colouring.{BareHead, bare_head, marked_colour, unmarked_colour}
use Rattle.step_marks.proofs.OfMarking.Learning.{load_may, bare, held, kind_here, knows_more, known, looks_same, shifts_queue, waits, grows_still}
use Rattle.step_marks.proofs.OfMarking.Targets.{Target, datum_facts, moved_knows, sees_on, sees_others, sees_own, target, waiting_moved}
use Rattle.std.proofs.lemmas.Bool.{cases_Bool}
use Rattle.std.proofs.lemmas.Option.{same_Some}
use Rattle.heap_rule.proofs.Controls.{untouched_same}
use Rattle.heap_rule.specs.declared.phase.Kind.TheVariants.{Rounds}
use Rattle.heap_rule.specs.declared.phase.Kind.{Kind}

module _ (k : Config) (s : Words) (r : Rule k s) (id : ℕ) (hist : List Entry) (x : DomainView) (at : get_elem? s.views id ≡ some (one k hist x)) where
  open r.account use {cycling as c}
  open x use {seen.{share as sh}}

  abbrev After : DomainView → Type 0
  After y = Rule k record { words = s.words; homes = s.homes; views = set s.views id (one k hist y) }

  -- the facts of the phase, where a domain is done with what it had to mark
  facts_on : (reason : Reason) (a : ℕ) (w : Warrants reason x a) (p : Place) → r.account.live a ≡ Some p → IsTrue (c.paint.marks.marked p.label)
      → Facts c.kind k (state_of k r.account.log) r.account.live r.account.tenancy (record c { shares = record c.shares { seen = sees_on k s r id hist x at reason a w } }) s.words
  facts_on (Register n) a w p lives marked = r.whole.cycle.facts
  facts_on Field a w p lives marked = r.whole.cycle.facts
  facts_on (OfQueue i) a w p lives marked = r.whole.cycle.facts
  facts_on OfDatum a w p lives marked =
      let kind_is : c.kind ≡ Rounds = kind_here k s r id hist x at Rounds w.1 in
      subst (λ (kind : Kind). Facts kind k (state_of k r.account.log) r.account.live r.account.tenancy (record c { shares = record c.shares { seen = sees_on k s r id hist x at OfDatum a w } }) s.words) (sym kind_is)
      (datum_facts k s r id hist x at a w p lives c s.words marked (subst (λ (kind : Kind). Facts kind k (state_of k r.account.log) r.account.live r.account.tenancy c s.words) kind_is r.whole.cycle.facts) w.0 w.2)

  -- a block that is known to be marked: the domain goes on
  pub goes_on : (collecting : IsCollecting x.seen.stage) (reason : Reason) (a : ℕ) → Warrants reason x a → (p : Place) → r.account.live a ≡ Some p → IsTrue (c.paint.marks.marked p.label) → After (with_share x (moved_on reason a sh))
  goes_on collecting reason a w p lives marked =
      let t = (my_good k s r id hist x at).sharing.telling in
      let not_arrived : c.shares.arrived x.own.number ≡ false = waits k s r id hist x at collecting in
      shifts_queue k s r id hist x at collecting (waiting_on reason sh.waiting) (waiting_moved k s r id hist x at collecting a p lives c.paint.marks marked (λ l is. is) reason w) c.shares.changed c.shares.owes c.shares.follows (sees_on k s r id hist x at reason a w) (held (moved_on reason a sh)) s.words (untouched_same s.words) refl refl refl r.whole.cycle.changed_is
      (facts_on reason a w p lives marked)
      (grows_still k s r id hist x at collecting)
      (λ z other. (refl, refl, sees_others k s r id hist x at reason a w z other))
      (t.owes not_arrived)
      (sees_own k s r id hist x at reason a w (t.seen not_arrived))
      (moved_knows k s r id hist x at collecting a p lives c.paint.marks s.words marked (λ _. refl) (known k s r id hist x at) reason w sh.owes sh.account sh.darkenings)
      refl

  module _ (a : ℕ) (reason : Reason) (may : TargetMay x a reason) where
    aim : Target k s r id hist x at a
    aim = target k s r id hist x at reason a may.reason_is

    abbrev found : ℕ
    found = at_address k s.words a

    there : BareHead c.paint aim.place found
    there = bare_head c.paint aim.place found (bare k s r id hist x at may.collects a aim.place aim.lives) r.whole.cycle.meanings (r.whole.placed.fits a aim.place aim.lives).head (r.whole.found a aim.place aim.lives).head

    means : may.colours ≡ c.paint.colours
    means = (my_good k s r id hist x at).sharing.telling.colours may.colours may.known

    pub target_told : (y : DomainView) × After y × TargetTold a reason x found y
    target_told = ⊎_elim
        (λ (e : c.paint.marks.marked aim.place.label ≡ true). (
          with_share x (moved_on reason a sh),
          goes_on may.collects reason a may.reason_is aim.place aim.lives e,
          record { colours = may.colours; known = may.known; told = inr (record { shape = aim.place.shape; head = there.head; colour = marked_colour c.paint aim.place found may.colours means there e }, refl) },
        ))
        (λ (e : c.paint.marks.marked aim.place.label ≡ false).
        let n = known k s r id hist x at in
        let share' : Share = record sh { found_head = Some (record { address = a; word = found }) } in (
          with_share x share',
          knows_more k s r id hist x at may.collects (held share') refl refl record {
            found_head = λ g p q lives. let is : (record { address = a; word = found }) ≡ g = same_Some (record { address = a; word = found }) g q in inl (subst (λ (z : FoundHead). at_address k s.words z.address ≡ z.word) is refl);
            scan = n.scan;
            walked = n.walked;
            own_pool = n.own_pool;
            rooted = n.rooted;
            marked = n.marked;
            looking = looks_same k s r id hist x at may.collects (held share') refl refl;
          },
          record { colours = may.colours; known = may.known; told = inl (record { shape = aim.place.shape; head = there.head; colour = unmarked_colour c.paint aim.place found may.colours means there e }, refl) },
        ))
        (cases_Bool (c.paint.marks.marked aim.place.label))

pub target_may : (k : Config) (x : DomainView) (word a : ℕ) (reason : Reason) → word ≡ before_heap k + a → TargetMay x a reason → MayStep k x word (λ n. n) (TargetTold a reason)
target_may k x word a reason place may = load_may k x word a (TargetTold a reason) place (λ s r id hist at. target_told k s r id hist x at a reason may)
