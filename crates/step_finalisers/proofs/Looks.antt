-- A look at a registration keeps the rule: one of `finalise` in Decide, one of `finalise_last` in Lasts.
use Rattle.std.proofs.Common.{◌≡◌, ℕ, suc, ◌+◌, ◌<◌, true, false, true≢false, IsTrue, List, [], ◌∷◌, ◌++◌, length, map, set, slice_get, Some, sym, refl, ap, ◌∙◌, subst, ⊎_elim}
use Rattle.std.proofs.lemmas.Bool.{cases_Bool}
use mathlib.Core.Option.{some}
use lib.ListN.{get_elem?}
use Rattle.model_core.specs.declared.entry.Entry.{Entry}
use Rattle.model_core.specs.declared.entry.Entry.TheVariants.{Queue, Last}
use Rattle.model_core.specs.declared.label.Label.{Label}
use Rattle.model_core.specs.declared.state.Finaliser.{Finaliser}
use Rattle.model_core.specs.declared.state.LastFinaliser.{LastFinaliser}
use Rattle.model_core.specs.declared.state.State as model
use Rattle.model_core.specs.Domains.{domain_at}
use Rattle.model_core.specs.Entries.{queued_final as as_pending, queued_last as as_last_pending, with_last_queued, with_queued}
use Rattle.model_cycle.specs.Cycle as laws
use Rattle.model_cycle.specs.Shares.{at_domain}
use Rattle.model_cycle.proofs.Cycling.{taking_steps}
use Rattle.heap_rule.specs.declared.config.Config.{Config}
use Rattle.heap_rule.specs.declared.phase.Kind.{Kind}
use Rattle.heap_rule.specs.declared.phase.Kind.TheVariants.{Decide, Lasts}
use Rattle.heap_rule.specs.declared.view.DomainView.{DomainView}
use Rattle.heap_rule.specs.declared.view.Registered.{Registered}
use Rattle.heap_rule.specs.declared.view.RegisteredLast.{RegisteredLast}
use Rattle.heap_rule.specs.declared.view.Waiting.TheVariants.{Fin, Last as LastWaiting}
use Rattle.heap_rule.specs.Cycles.{Facts, IsPlain, IsRotated, cycle_of, swept_of}
use Rattle.heap_rule.specs.Finalisers.{Enrolled, Paired, StandsFinal, StandsLast, StandsWaiting}
use Rattle.heap_rule.specs.Layout.{at_address, before_heap}
use Rattle.heap_rule.specs.Raw.{MayStep}
use Rattle.heap_rule.specs.Rule.{Good, Rule, state_of}
use Rattle.heap_rule.specs.Views.{one}
use Rattle.heap_rule.proofs.FinaliserLemmas.{paired_get, paired_remove}
use Rattle.step_marks.proofs.OfMarking.Learning.{load_may}
use Rattle.heap_rule.proofs.Keeps.{Words, mine, my_good}
use Rattle.step_finalisers.specs.Looking.{FinalLookMay, FinalLookTold, LastLookMay, LastLookTold, queued_final, queued_last}
use Rattle.step_finalisers.proofs.TakeSteps.{kind_is, waits}
use Rattle.step_finalisers.proofs.LookSteps.{at_one, has_one, is_not, left_one, looks, removed_length, waiting_more}

module _ (k : Config) (s : Words) (r : Rule k s) (id : ℕ) (hist : List Entry) (x : DomainView) (at : get_elem? s.views id ≡ some (one k hist x)) where
  open r.account use {live, tenancy as t, cycling as c}
  open x use {own.{number as d}}

  abbrev now : model.State
  now = state_of k r.account.log

  good : Good k r.account s.words x
  good = my_good k s r id hist x at

  en : Enrolled live now d x.own.finalisers
  en = good.stood.enrolled

  -- those of `finalise`
  module _ (a i marked : ℕ) (rd : Registered) (may : FinalLookMay x a i marked rd) where
    decide : c.kind ≡ Decide
    decide = kind_is k s r id hist x at Decide may.stage (λ p. p) (λ none. none) (λ e. cc)

    facts : Facts Decide k now live t c s.words
    facts = subst (λ (z : Kind). Facts z k now live t c s.words) decide r.whole.cycle.facts

    abbrev fin : (f : Finaliser) × (slice_get (domain_at now d).finals i ≡ Some f) × StandsFinal live rd f
    fin = paired_get (StandsFinal live) x.own.finalisers.finals.items (domain_at now d).finals i rd en.finals may.registered

    inside : d < length now.domains
    inside = has_one (λ z. z.finals) refl now.domains d i fin.0 fin.1

    left_is : c.left d ≡ suc i
    left_is = left_one (c.left d) x.seen.share.kept (length x.own.finalisers.finals.items) i (good.sharing.deciding.finals decide (waits k s r id hist x at Decide may.stage (λ p. p) (λ none. none) (λ e. cc))) may.next

    plain : IsPlain (record c { left = at_domain c.left d i })
    plain = record { unchanged = facts.1.unchanged; unrotated = facts.1.unrotated }

    final_looks : (z : DomainView) × Rule k record { words = s.words; homes = s.homes; views = set s.views id (one k hist z) } × FinalLookTold k i marked rd x (at_address k s.words a) z
    final_looks =
        let o = looks k s r id hist x at Decide may.stage (λ p. p) (λ none. none) (λ e. cc) (λ none. none) a i marked may.colours may.known may.means fin.2.0.0 (ap live may.address ∙ fin.2.0.1)
        (Queue d (i ∷ [])) (with_queued (domain_at now d) (i ∷ [])) (queued_final i rd x.own).finalisers
        record {
          uncollected = refl;
          unowned = λ n. refl;
          uncontrolled = refl;
          inside = inside;
          graph = refl;
          domains = refl;
          finals = paired_remove (StandsFinal live) x.own.finalisers.finals.items (domain_at now d).finals i en.finals;
          lasts = en.lasts;
          queue = subst (Paired (StandsWaiting live) (queued_final i rd x.own).finalisers.queue.items) (sym (ap (λ (l : List Finaliser). (domain_at now d).queue ++ map as_pending l) (at_one (domain_at now d).finals i fin.0 fin.1)))
              (waiting_more k s r id hist x at x.own.finalisers (domain_at now d).queue (Fin rd.address rd.number rd.register) (as_pending fin.0) fin.2 en.queue);
          keeps = λ is. (taking_steps.decide_keeps k.domains now (cycle_of k live t.holder c) facts.0 d i fin.0 left_is fin.1 (subst (λ (l : Label). IsTrue (c.paint.marks.marked l)) fin.2.0.2 is), plain);
          queues = λ is. let row = taking_steps.decide_queues k.domains now (cycle_of k live t.holder c) facts.0 d i fin.0 left_is fin.1 (is_not (c.paint.marks.marked fin.0.label) (ap c.paint.marks.marked (sym fin.2.0.2) ∙ is)) inside in (row.0, (row.1, plain));
          decides = λ _. (may.next, removed_length x.own.finalisers.finals.items i rd may.registered);
          leaves = λ e. cc;
        } in (o.0, o.1, record { told = o.2 })

  -- those of `finalise_last`
  module _ (a i marked : ℕ) (rd : RegisteredLast) (may : LastLookMay x a i marked rd) where
    leaving : c.kind ≡ Lasts
    leaving = kind_is k s r id hist x at Lasts may.stage (λ p. p) (λ none. none) (λ e. cc)

    left_facts : Facts Lasts k now live t c s.words
    left_facts = subst (λ (z : Kind). Facts z k now live t c s.words) leaving r.whole.cycle.facts

    waiting : c.shares.arrived d ≡ false
    waiting = waits k s r id hist x at Lasts may.stage (λ p. p) (λ none. none) (λ e. cc)

    abbrev last : (f : LastFinaliser) × (slice_get (domain_at now d).lasts i ≡ Some f) × StandsLast live rd f
    last = paired_get (StandsLast live) x.own.finalisers.lasts.items (domain_at now d).lasts i rd en.lasts may.registered

    within : d < length now.domains
    within = has_one (λ z. z.lasts) refl now.domains d i last.0 last.1

    lasts_left : c.left d ≡ suc i
    lasts_left = left_one (c.left d) x.seen.share.kept (length x.own.finalisers.lasts.items) i (good.sharing.deciding.lasts leaving waiting) may.next

    not_gone : IsRotated k live c → ⊥
    not_gone z = true≢false (sym (z.gone d (mine k s r id hist x at).inside) ∙ waiting)

    unrotated : c.rotated ≡ false
    unrotated = ⊎_elim (λ (is : c.rotated ≡ true). absurd (not_gone (left_facts.turned is))) (λ (is : c.rotated ≡ false). is) (cases_Bool c.rotated)

    before_is : (l : Label) → c.paint.marks.marked l ≡ c.before l
    before_is = left_facts.stays unrotated

    leaves : (w : model.State) → laws.InPhase laws.Lasts k.domains w (record (swept_of k live t.holder c) { left = at_domain c.left d i }) → Facts Lasts k w live t (record c { left = at_domain c.left d i }) s.words
    leaves w facts' = record { facts = facts'; unchanged = left_facts.unchanged; stays = left_facts.stays; turned = λ is. absurd (not_gone (left_facts.turned is)) }

    last_looks : (z : DomainView) × Rule k record { words = s.words; homes = s.homes; views = set s.views id (one k hist z) } × LastLookTold k i marked rd x (at_address k s.words a) z
    last_looks =
        let o = looks k s r id hist x at Lasts may.stage (λ p. p) (λ none. none) (λ e. cc) (λ none. none) a i marked may.colours may.known may.means last.2.0.0 (ap live may.address ∙ last.2.0.1)
        (Last d i) (with_last_queued (domain_at now d) i) (queued_last i rd x.own).finalisers
        record {
          uncollected = refl;
          unowned = λ n. refl;
          uncontrolled = refl;
          inside = within;
          graph = refl;
          domains = refl;
          finals = en.finals;
          lasts = paired_remove (StandsLast live) x.own.finalisers.lasts.items (domain_at now d).lasts i en.lasts;
          queue = subst (Paired (StandsWaiting live) (queued_last i rd x.own).finalisers.queue.items) (sym (ap (λ (l : List LastFinaliser). (domain_at now d).queue ++ map as_last_pending l) (at_one (domain_at now d).lasts i last.0 last.1)))
              (waiting_more k s r id hist x at x.own.finalisers (domain_at now d).queue (LastWaiting rd.number) (as_last_pending last.0) last.2.1 en.queue);
          keeps = λ is. leaves now (taking_steps.lasts_keeps k.domains now (swept_of k live t.holder c) left_facts.facts d i last.0 lasts_left last.1 (sym (before_is last.0.label) ∙ subst (λ (l : Label). IsTrue (c.paint.marks.marked l)) last.2.0.2 is));
          queues = λ is. let row = taking_steps.lasts_queues k.domains now (swept_of k live t.holder c) left_facts.facts d i last.0 lasts_left last.1 (is_not (c.before last.0.label) (sym (before_is last.0.label) ∙ (ap c.paint.marks.marked (sym last.2.0.2) ∙ is))) within in (row.0, leaves _ row.1);
          decides = λ e. cc;
          leaves = λ _. (may.next, removed_length x.own.finalisers.lasts.items i rd may.registered);
        } in (o.0, o.1, record { told = o.2 })

pub final_look_may : (k : Config) (x : DomainView) (word a i marked : ℕ) (rd : Registered) → word ≡ before_heap k + a → FinalLookMay x a i marked rd → MayStep k x word (λ n. n) (FinalLookTold k i marked rd)
final_look_may k x word a i marked rd place may = load_may k x word a (FinalLookTold k i marked rd) place (λ s r id hist at. final_looks k s r id hist x at a i marked rd may)

pub last_look_may : (k : Config) (x : DomainView) (word a i marked : ℕ) (rd : RegisteredLast) → word ≡ before_heap k + a → LastLookMay x a i marked rd → MayStep k x word (λ n. n) (LastLookTold k i marked rd)
last_look_may k x word a i marked rd place may = load_may k x word a (LastLookTold k i marked rd) place (λ s r id hist at. last_looks k s r id hist x at a i marked rd may)
