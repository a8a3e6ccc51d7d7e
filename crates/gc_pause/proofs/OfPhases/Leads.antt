-- What domain 0 has done that has named the next kind, and arrived.
use Rattle.std.proofs.Common.{◌≡◌, ◌∙◌, ◌++◌, ◌≤◌, ℕ, Bool, List, Option, Some, refl, sym, ap, subst, append_assoc}
use Rattle.model_core.specs.declared.entry.Entry.{Entry}
use Rattle.model_core.specs.Fronts.{AreNotControls, IsFrontOf, unseen}
use Rattle.model_core.specs.History.{Legal}
use Rattle.heap_rule.specs.declared.config.Config.{Config}
use Rattle.heap_rule.specs.declared.phase.Kind.{Kind}
use Rattle.heap_rule.specs.declared.phase.Kind.TheVariants.{Run, Promote, Reset, Roots, Mark, Rounds, Decide, Queued, Clean, Lasts, Sweep, Answer}
use Rattle.heap_rule.specs.declared.phase.Note.{Note}
use Rattle.heap_rule.specs.declared.phase.Progress.{Progress}
use Rattle.heap_rule.specs.declared.phase.Stage.TheVariants.{Leads, Led}
use Rattle.heap_rule.specs.declared.view.DomainView.{DomainView}
use Rattle.heap_rule.specs.Limits.{sizes_in}
use Rattle.heap_rule.specs.Views.{fresh_share}
use Rattle.step_pauses.specs.Pauses.{EndsWith, arrived_view, asks_again, entry_of, kind_in, progress_after, unmarked_after}
use Rattle.heap_rule.specs.Cycles.{IsMarking}
use Rattle.gc_pause.specs.Stops.Looks.{LedTo, cleared}
use Rattle.gc_pause.specs.declared.phases.decider.Decider.{Decider}
use Rattle.gc_pause.specs.Phases.Leading.{LeadsOn, Named, Opens, noted_before, set_back_for}

-- the domain with another front, other notes, and the next kind named
abbrev led_with : DomainView → Kind → List Entry → List Note → Progress → ℕ → DomainView
led_with x kind front notes p unmarked = record x { seen = record x.seen { front = front; notes = notes; stage = Led kind; share = record fresh_share { progress = p; unmarked = unmarked } } }

module _ (k : Config) (who : Decider) (x y z v : DomainView) (last kind : Kind) (stage : x.seen.stage ≡ Leads last) (o : Opens k who x y last kind) (n : Named k kind y z) (is : v ≡ arrived_view z) where
  l : LedTo k kind y n.named
  l = n.led

  -- what is known of the changed word is void again
  arrives : v ≡ arrived_view n.named
  arrives = is ∙ ap arrived_view n.view

  last_is : kind_in y.seen.stage ≡ last
  last_is = ap (λ (w : DomainView). kind_in w.seen.stage) o.view ∙ ap kind_in stage

  same_front : y.seen.front ≡ x.seen.front
  same_front = ap (λ (w : DomainView). w.seen.front) o.view

  same_number : y.own.number ≡ x.own.number
  same_number = ap (λ (w : DomainView). w.own.number) o.view

  -- the front is not changed by the arrival
  front_is : v.seen.front ≡ n.named.seen.front
  front_is = ap (λ (w : DomainView). w.seen.front) arrives

  before : y.seen.notes ≡ x.seen.notes ++ noted_before last kind x.seen.share.progress o.findings
  before = ap (λ (w : DomainView). w.seen.notes) o.view

  named : v.seen.notes ≡ y.seen.notes ++ cleared kind
  named = ap (λ (w : DomainView). w.seen.notes) arrives ∙ ap (λ (w : DomainView). w.seen.notes) l.view

  progress_now : progress_after (kind_in y.seen.stage) kind y.seen.share.progress ≡ progress_after last kind x.seen.share.progress
  progress_now = ap (λ (n : Kind). progress_after n kind y.seen.share.progress) last_is ∙ ap (progress_after last kind) o.progress_is

  owed_now : y.seen.share.progress.unswept ≡ x.seen.share.progress.unswept
  owed_now = ap (λ (p : Progress). p.unswept) o.progress_is

  entry_now : entry_of y.seen.share.progress.unswept (kind_in y.seen.stage) kind ≡ entry_of x.seen.share.progress.unswept last kind
  entry_now = ap (λ (n : Kind). entry_of y.seen.share.progress.unswept n kind) last_is ∙ ap (λ (u : Bool). entry_of u last kind) owed_now

  ends : (e : Entry) → entry_of x.seen.share.progress.unswept last kind ≡ Some e → EndsWith k x v e
  ends e stands =
      let m = l.made e (entry_now ∙ stands) in record {
        before = m.before;
        front = front_is ∙ m.front;
        seen = subst (λ (p : ℕ × List Entry). IsFrontOf p.0 m.before p.1) (λ i. (same_number i, same_front i)) m.seen;
        led = subst (λ (f : List Entry). AreNotControls (unseen m.before f)) same_front m.led;
        legal = subst (λ (f : List Entry). Legal (sizes_in k) f) (sym front_is) m.legal;
      }

  -- so many blocks aren't marked at most
  abbrev now_unmarked : ℕ
  now_unmarked = unmarked_after k (kind_in y.seen.stage) y.seen.share.changed y.seen.share.unmarked

  fewer : (kind_was : Kind) → last ≡ kind_was → unmarked_after k kind_was y.seen.share.changed x.seen.share.unmarked ≡ unmarked_after k kind_was (Some o.findings.changed) x.seen.share.unmarked
  fewer Mark e = ap (λ (c : Option ℕ). unmarked_after k Mark c x.seen.share.unmarked) (o.changed_is (subst IsMarking (sym e) tt))
  fewer Rounds e = ap (λ (c : Option ℕ). unmarked_after k Rounds c x.seen.share.unmarked) (o.changed_is (subst IsMarking (sym e) tt))
  fewer Run e = refl
  fewer Promote e = refl
  fewer Reset e = refl
  fewer Roots e = refl
  fewer Decide e = refl
  fewer Queued e = refl
  fewer Clean e = refl
  fewer Lasts e = refl
  fewer Sweep e = refl
  fewer Answer e = refl

  unmarked_now : now_unmarked ≡ unmarked_after k last (Some o.findings.changed) x.seen.share.unmarked
  unmarked_now = ap (λ (n : Kind). unmarked_after k n y.seen.share.changed y.seen.share.unmarked) last_is ∙ (ap (unmarked_after k last y.seen.share.changed) o.unmarked_is ∙ fewer last refl)

  view_is : v ≡ arrived_view (led_with x kind v.seen.front v.seen.notes (progress_after last kind x.seen.share.progress) (unmarked_after k last (Some o.findings.changed) x.seen.share.unmarked))
  view_is =
      let p : Progress = progress_after (kind_in y.seen.stage) kind y.seen.share.progress in
      arrives ∙ (ap arrived_view l.view
      ∙ (ap (λ (w : DomainView). arrived_view (led_with w kind n.named.seen.front (y.seen.notes ++ cleared kind) p now_unmarked)) o.view
      ∙ (ap (λ (f : List Entry). arrived_view (led_with x kind f (y.seen.notes ++ cleared kind) p now_unmarked)) (sym front_is)
      ∙ (ap (λ (notes : List Note). arrived_view (led_with x kind v.seen.front notes p now_unmarked)) (sym named)
      ∙ (ap (λ (q : Progress). arrived_view (led_with x kind v.seen.front v.seen.notes q now_unmarked)) progress_now
      ∙ ap (λ (u : ℕ). arrived_view (led_with x kind v.seen.front v.seen.notes (progress_after last kind x.seen.share.progress) u)) unmarked_now)))))

  grown : IsMarking last → asks_again (Some o.findings.changed) ≤ x.seen.share.unmarked
  grown marking = subst (λ (z : Option ℕ × ℕ). asks_again z.0 ≤ z.1) (λ i. (o.changed_is marking i, o.unmarked_is i)) (l.grown (subst IsMarking (sym last_is) marking))

  pub leads_on : LeadsOn k who x v last kind
  leads_on = record {
    follows = o.follows;
    findings = o.findings;
    chosen = o.chosen;
    notes = named ∙ (ap (λ (notes : List Note). notes ++ cleared kind) before ∙ append_assoc x.seen.notes (noted_before last kind x.seen.share.progress o.findings) (cleared kind));
    seen = subst (λ (p : ℕ × List Entry × List Entry). IsFrontOf p.0 p.1 p.2) (λ i. (same_number i, sym front_is i, same_front i)) l.seen;
    stays = λ none. front_is ∙ (l.stays (entry_now ∙ none) ∙ same_front);
    made = ends;
    view = view_is;
    grown = grown;
  }

-- whoever has named a phase in which blocks are marked has set the changed word back
pub set_back_before : (k : Config) (next : Kind) (x y : DomainView) → Named k next x y → y.seen.stage ≡ Led Mark → y.seen.share.changed ≡ Some 0
set_back_before k next x y n is =
    let stage : Led next ≡ Led Mark = sym (ap (λ (w : DomainView). w.seen.stage) n.view ∙ ap (λ (w : DomainView). w.seen.stage) n.led.view) ∙ is in
    let kind : next ≡ Mark = let e = stage in cc in
    ap (λ (w : DomainView). w.seen.share.changed) n.view ∙ ap set_back_for kind
