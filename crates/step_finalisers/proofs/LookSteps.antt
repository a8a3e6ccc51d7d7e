-- What the looks at registrations have in common: a look keeps the rule, whichever kind of registration it is at.
use Rattle.std.proofs.Common.{◌≡◌, ℕ, zero, suc, ◌+◌, ◌<◌, ◌⊎◌, Bool, true, false, not, IsTrue, List, [], ◌∷◌, ◌++◌, length, get_or, set, slice_get, Option, Some, None, sym, refl, ap, ◌∙◌, subst, inl, inr, ⊎_elim, arith, get_or-set_same, get_or-set_other}
use Rattle.std.specs.List.{cons_option}
use Rattle.std.specs.Prelude.{remove}
use Rattle.std.proofs.lemmas.Bool.{cases_Bool}
use mathlib.Core.Option.{some}
use lib.ListN.{get_elem?}
use Rattle.model_core.specs.declared.entry.Entry.{Entry}
use Rattle.model_core.specs.declared.state.DomainState.{DomainState}
use Rattle.model_core.specs.declared.state.Pending.{Pending}
use Rattle.model_core.specs.declared.state.State as model
use Rattle.model_core.specs.Domains.{domain_at, no_domain}
use Rattle.model_core.specs.Entries.{Allowed, at_places, next}
use Rattle.model_core.specs.Fronts.{KeepsDomain, is_control}
use Rattle.model_core.specs.History.{is_entry_of}
use Rattle.model_core.proofs.Commands.FrameLemmas.{keeps_next}
use Rattle.model_cycle.specs.Fullness.{is_collected}
use Rattle.model_cycle.specs.Shares.{at_domain}
use Rattle.heap_words.specs.declared.colours.Colours.{Colours}
use Rattle.heap_rule.specs.declared.config.Config.{Config}
use Rattle.heap_rule.specs.declared.phase.Kind.{Kind}
use Rattle.heap_rule.specs.declared.phase.Kind.TheVariants.{Clean, Decide, Lasts}
use Rattle.heap_rule.specs.declared.phase.Stage.TheVariants.{In}
use Rattle.heap_rule.specs.declared.view.DomainView.{DomainView}
use Rattle.heap_rule.specs.declared.view.Finalisers.{Finalisers}
use Rattle.heap_rule.specs.Cycles.{Facts, IsCollecting}
use Rattle.heap_rule.specs.Deciding.{IsRooting}
use Rattle.heap_rule.specs.Finalisers.{Enrolled, Paired, StandsFinal, StandsLast, StandsWaiting}
use Rattle.heap_rule.specs.Layout.{at_address}
use Rattle.heap_rule.specs.Phases.{IsInPause}
use Rattle.heap_rule.specs.Places.{Place}
use Rattle.heap_rule.specs.Rule.{Good, Rule, state_of}
use Rattle.heap_rule.specs.Views.{one}
use Rattle.heap_rule.proofs.FinaliserLemmas.{KeepsWork, paired_append, work_same}
use Rattle.heap_rule.proofs.FullnessLemmas.{full_stays}
use Rattle.heap_rule.proofs.Keeps.{Words, after_entry, knows_entry, knows_front, legal_entry, mine, my_good}
use Rattle.step_marks.proofs.OfMarking.Colouring.{BareHead, bare_head, marked_colour, unmarked_colour}
use Rattle.step_marks.proofs.OfMarking.Learning.{bare}
use Rattle.step_sweep.specs.Freeing.{IsColoured}
use Rattle.step_sweep.proofs.HeadColours.{one_colour}
use Rattle.step_finalisers.specs.Looking.{Queues, keeping}
use Rattle.step_finalisers.specs.Registering.{with_finalisers}
use Rattle.step_finalisers.proofs.TakeSteps.{Takes, collecting, takes, y}

-- a domain that has a registration is one of the state's
pub has_one : {A : Type 0} (part : DomainState → List A) → part no_domain ≡ [] → (xs : List DomainState) (d i : ℕ) (f : A) → slice_get (part (get_or xs d no_domain)) i ≡ Some f → d < length xs
has_one part none [] d i f e = absurd (let clash : ◌≡◌ {A = Option _} None (Some f) = sym (ap (λ l. slice_get l i) none) ∙ e in cc)
has_one part none (x ∷ xs) zero i f e = omega arith
has_one part none (x ∷ xs) (suc d) i f e = let below = has_one part none xs d i f e in omega arith

-- the one element at a place
pub at_one : {A : Type 0} (xs : List A) (i : ℕ) (x : A) → slice_get xs i ≡ Some x → at_places (i ∷ []) xs ≡ x ∷ []
at_one xs i x e = ap (λ o. cons_option o []) e

-- a list without one of its elements
pub removed_length : {A : Type 0} (xs : List A) (i : ℕ) (x : A) → slice_get xs i ≡ Some x → length (remove xs i) + 1 ≡ length xs
removed_length [] i x e = absurd (let clash : ◌≡◌ {A = Option _} None (Some x) = e in cc)
removed_length (z ∷ zs) zero x e = omega arith
removed_length (z ∷ zs) (suc i) x e = let less = removed_length zs i x e in omega arith

-- so many are left where the next one is this
pub left_one : (left kept n i : ℕ) → left + kept ≡ n → i + 1 + kept ≡ n → left ≡ suc i
left_one left kept n i all next = omega arith

-- one more is kept, or there is one fewer
one_kept : (i kept n : ℕ) → i + 1 + kept ≡ n → i + (kept + 1) ≡ n
one_kept i kept n next = omega arith

one_fewer : (i kept n m : ℕ) → i + 1 + kept ≡ n → m + 1 ≡ n → i + kept ≡ m
one_fewer i kept n m next less = omega arith

-- unmarked is not marked
pub is_not : (b : Bool) → b ≡ false → IsTrue (not b)
is_not true e = cc
is_not false e = refl

module _ (k : Config) (s : Words) (r : Rule k s) (id : ℕ) (hist : List Entry) (x : DomainView) (at : get_elem? s.views id ≡ some (one k hist x)) where
  open r.account use {live, tenancy as t, cycling as c, log}
  open x use {own.{number as d}}

  abbrev now : model.State
  now = state_of k r.account.log

  good : Good k r.account s.words x
  good = my_good k s r id hist x at

  -- what is queued last
  pub waiting_more : (fs : Finalisers) (queue : List Pending) (w : _) (p : Pending) → StandsWaiting live w p → Paired (StandsWaiting live) fs.queue.items queue → Paired (StandsWaiting live) (fs.queue.items ++ w ∷ []) (queue ++ p ∷ [])
  waiting_more fs queue w p stands q = paired_append (StandsWaiting live) fs.queue.items (w ∷ []) queue (p ∷ []) q (stands, tt)

  -- the head of a block tells whether it is marked
  module _ (under_way : IsCollecting x.seen.stage) (colours : Colours) (known : x.seen.share.colours ≡ Some colours) (a : ℕ) (q : Place) (lives : live a ≡ Some q) where
    there : BareHead c.paint q (at_address k s.words a)
    there = bare_head c.paint q (at_address k s.words a) (bare k s r id hist x at under_way a q lives) r.whole.cycle.meanings (r.whole.placed.fits a q lives).head (r.whole.found a q lives).head

    means : colours ≡ c.paint.colours
    means = good.sharing.telling.colours colours known

    pub coloured : c.paint.marks.marked q.label ≡ true → IsColoured colours.marked (at_address k s.words a)
    coloured is = record { shape = q.shape; head = there.head; colour_is = marked_colour c.paint q (at_address k s.words a) colours means there is }

    pub uncoloured : c.paint.marks.marked q.label ≡ false → IsColoured colours.marked (at_address k s.words a) → ⊥
    uncoloured is marked =
        let plain : IsColoured colours.unmarked (at_address k s.words a) = record { shape = q.shape; head = there.head; colour_is = unmarked_colour c.paint q (at_address k s.words a) colours means there is } in
        r.whole.cycle.meanings.marked_differs (ap (λ (z : Colours). z.marked) (sym means) ∙ (one_colour colours.marked colours.unmarked (at_address k s.words a) marked plain ∙ ap (λ (z : Colours). z.unmarked) means))

  -- a look at the i-th registration, at the block q: it is kept, or the entry e of the collector stands, the domain is w in the state, and its lists are others
  module _ (kind : Kind) (stage : x.seen.stage ≡ In kind) (no_pause : IsInPause (In kind) → ⊥) (under_way : IsCollecting (In kind)) (not_clean : kind ≡ Clean → ⊥) (no_roots : IsRooting kind → ⊥)
      (a i marked : ℕ) (colours : Colours) (known : x.seen.share.colours ≡ Some colours) (means : marked ≡ colours.marked) (q : Place) (lives : live a ≡ Some q) (e : Entry) (w : DomainState) (lists : Finalisers) where
    open x use {own.{finalisers as held}, seen.{share.{kept as seen}}}

    abbrev FactsAt : model.State → Type 0
    FactsAt z = Facts kind k z live t (record c { left = at_domain c.left d i }) s.words

    -- what differs from kind to kind
    pub record Looked : Type 0 where
      pub uncollected : is_collected e ≡ false
      pub unowned : (n : ℕ) → is_entry_of n e ≡ false
      pub uncontrolled : is_control e ≡ false
      pub inside : d < length now.domains
      pub graph : (next now e).graph ≡ now.graph
      pub domains : (next now e).domains ≡ set now.domains d w
      pub finals : Paired (StandsFinal live) lists.finals.items w.finals
      pub lasts : Paired (StandsLast live) lists.lasts.items w.lasts
      pub queue : Paired (StandsWaiting live) lists.queue.items w.queue
      pub keeps : c.paint.marks.marked q.label ≡ true → FactsAt now
      pub queues : c.paint.marks.marked q.label ≡ false → Allowed now e × FactsAt (next now e)
      pub decides : kind ≡ Decide → (i + 1 + seen ≡ length held.finals.items) × (length lists.finals.items + 1 ≡ length held.finals.items)
      pub leaves : kind ≡ Lasts → (i + 1 + seen ≡ length held.lasts.items) × (length lists.lasts.items + 1 ≡ length held.lasts.items)

    module _ (o : Looked) where
      kept : c.paint.marks.marked q.label ≡ true → Takes k s r id hist x at kind stage no_pause under_way not_clean i (seen + 1) log held x.seen.front
      kept is = record {
        legal = r.whole.legal;
        full = r.whole.full;
        graph = refl;
        keeps = λ z. record { registers = refl; serial = refl; ended = refl };
        work = λ z _. work_same now now z refl;
        enrolled = good.stood.enrolled;
        facts = o.keeps is;
        seats = knows_front k s r id hist x at (keeping x) refl (inl refl);
        decides = λ z. one_kept i seen (length held.finals.items) (o.decides z).0;
        lasts = λ z. one_kept i seen (length held.lasts.items) (o.leaves z).0;
        no_roots = no_roots;
      }

      abbrev front : List Entry
      front = log ++ e ∷ []

      abbrev z : DomainView
      z = y k s r id hist x at kind stage no_pause under_way not_clean i seen front lists front

      after : state_of k front ≡ next now e
      after = after_entry k s r id hist x at e

      here : domain_at (next now e) d ≡ w
      here = ap (λ (l : List DomainState). get_or l d no_domain) o.domains ∙ get_or-set_same now.domains d w no_domain o.inside

      enrolled' : Enrolled live (next now e) d lists
      enrolled' = record {
        finals = subst (Paired (StandsFinal live) lists.finals.items) (sym (ap (λ (z : DomainState). z.finals) here)) o.finals;
        lasts = subst (Paired (StandsLast live) lists.lasts.items) (sym (ap (λ (z : DomainState). z.lasts) here)) o.lasts;
        queue = subst (Paired (StandsWaiting live) lists.queue.items) (sym (ap (λ (z : DomainState). z.queue) here)) o.queue;
      }

      taken : c.paint.marks.marked q.label ≡ false → Takes k s r id hist x at kind stage no_pause under_way not_clean i seen front lists front
      taken is = record {
        legal = legal_entry k s r id hist x at e (o.queues is).0;
        full = full_stays k log live t.holder t.fresh t.garbage r.account.homes c.kind e o.uncollected r.whole.full;
        graph = ap (λ (w : model.State). w.graph) after ∙ o.graph;
        keeps = λ n. subst (λ (w : model.State). KeepsDomain now w n) (sym after) (keeps_next now e n (o.unowned n));
        work = λ n other. subst (λ (w : model.State). KeepsWork now w n) (sym after) (work_same now (next now e) n (ap (λ (l : List DomainState). get_or l n no_domain) o.domains ∙ get_or-set_other now.domains d n w no_domain other));
        enrolled = subst (λ (w : model.State). Enrolled live w d lists) (sym after) enrolled';
        facts = subst FactsAt (sym after) (o.queues is).1;
        seats = knows_entry k s r id hist x at z e (λ n _. o.unowned n) (λ _. o.uncontrolled) refl refl;
        decides = λ z. one_fewer i seen (length held.finals.items) (length lists.finals.items) (o.decides z).0 (o.decides z).1;
        lasts = λ z. one_fewer i seen (length held.lasts.items) (length lists.lasts.items) (o.leaves z).0 (o.leaves z).1;
        no_roots = no_roots;
      }

      collects : IsCollecting x.seen.stage
      collects = collecting k s r id hist x at kind stage no_pause under_way not_clean

      abbrev word : ℕ
      word = at_address k s.words a

      abbrev Told : DomainView → Type 0
      Told y = (IsColoured marked word × (y ≡ keeping x)) ⊎ ((IsColoured marked word → ⊥) × Queues k e (with_finalisers lists x.own) x y)

      pub looks : (y : DomainView) × Rule k record { words = s.words; homes = s.homes; views = set s.views id (one k hist y) } × Told y
      looks = ⊎_elim
          (λ (is : c.paint.marks.marked q.label ≡ true). (
            keeping x,
            takes k s r id hist x at kind stage no_pause under_way not_clean i (seen + 1) log held x.seen.front (kept is),
            inl (subst (λ (n : ℕ). IsColoured n word) (sym means) (coloured collects colours known a q lives is), refl),
          ))
          (λ (is : c.paint.marks.marked q.label ≡ false). (
            z,
            takes k s r id hist x at kind stage no_pause under_way not_clean i seen front lists front (taken is),
            inr (
              λ w. uncoloured collects colours known a q lives is (subst (λ (n : ℕ). IsColoured n word) means w),
              record { before = log; front = refl; seen = (mine k s r id hist x at).front; led = (mine k s r id hist x at).led; legal = legal_entry k s r id hist x at e (o.queues is).0; view = refl },
            ),
          ))
          (cases_Bool (c.paint.marks.marked q.label))
