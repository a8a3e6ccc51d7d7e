-- What the look of a domain that has arrived leaves of its run.
use Rattle.std.proofs.Common.{◌≡◌, ◌≢◌, ◌∙◌, ℕ, ◌+◌, ◌<◌, ◌≤◌, Bool, true, List, Option, Some, None, refl, sym, ap, subst, inl, ⊎_elim, arith}
use Rattle.model_core.specs.declared.entry.Entry.{Entry}
use Rattle.model_core.specs.declared.entry.Entry.TheVariants.{Collected}
use Rattle.model_core.specs.declared.reply.Reply.{Reply}
use Rattle.model_core.specs.declared.state.State as model
use Rattle.model_core.specs.declared.state.Mode.TheVariants.{Answer as AnswerMode}
use Rattle.model_core.specs.Domains.{opening}
use Rattle.model_core.specs.Fronts.{IsFrontOf}
use Rattle.model_core.proofs.Histories.FrontLemmas.{front_whole, front_trans}
use Rattle.model_core.proofs.Histories.HistoryLemmas.{state_after-push}
use Rattle.heap_rule.specs.declared.config.Config.{Config}
use Rattle.heap_rule.specs.declared.phase.Kind.{Kind}
use Rattle.heap_rule.specs.declared.phase.Kind.TheVariants.{Run, Promote, Reset, Roots, Mark, Rounds, Decide, Queued, Clean, Lasts, Sweep, Answer}
use Rattle.heap_rule.specs.declared.phase.Note.TheVariants.{Barrier}
use Rattle.heap_rule.specs.declared.phase.Stage.TheVariants.{In, Leads, Led, Gone}
use Rattle.heap_rule.specs.declared.view.Hunt.TheVariants.{Rests}
use Rattle.heap_rule.specs.declared.view.DomainView.{DomainView}
use Rattle.heap_rule.specs.Limits.{sizes_in}
use Rattle.heap_rule.specs.Phases.{Follows, Comes, IsEven, IsOdd}
use Rattle.heap_rule.specs.Rule.{state_of}
use Rattle.heap_rule.specs.Standing.{noted, with_front}
use Rattle.heap_rule.specs.Token.{Token, SharedHeap, IsIn}
use Rattle.heap_rule.specs.Views.{fresh_share}
use Rattle.step_pauses.specs.Pauses.{kind_in, arrived_view, entry_of, progress_after, unmarked_after, EndsWith, IsModeOf}
use Rattle.step_promote.specs.Promotion.{reset_view}
use Rattle.gc_pause.specs.Stops.Looks.{PassedBarrier}
use Rattle.heap_rule.specs.declared.phase.Progress.{Progress}
use Rattle.gc_pause.specs.Phases.Sharing.{SharesIn, gave_back, with_shared}
use Rattle.gc_sweep.specs.Emptiness.{sunk}
use Rattle.gc_pause.specs.Phases.Leading.{LeadsOn}
use Rattle.gc_pause.specs.declared.phases.decider.Decider.{Decider}
use Rattle.heap_rule.specs.declared.view.Finalisers.{Finalisers}
use Rattle.step_finalisers.specs.Registering.{count_of}
use Rattle.run_turns.specs.Tries.{IsFresh}
use Rattle.run_turns.specs.Pausing.{HasNothingPending, IsPast, IsReady, HasLeft, KnowsAnswer, KnowsProgress, LeavesEven, LeavesOdd, ComesToAnswer, GivesBack, AnswersFrom, CountsAndAnswers}
use Rattle.run_turns.specs.Runs.{IsBetween, Passes}
use Rattle.run_turns.proofs.Looking.{noted_left}
use Rattle.run_turns.proofs.Moving.{Moves, view_moves}
use Rattle.run_turns.proofs.Owing.{bare_count}
use Rattle.run_turns.proofs.PauseLemmas.{not_both, even_next, odd_next, answer_on, before_answer, fresh_on, past_as, keeps_as, arrived_void, later_past, quiet_as, looked_past, looked_quiet, ready_next, same_held, even_past, even_quiet, arrived_quiet}

some_injective : (a b : Kind) → ◌≡◌ {A = Option Kind} (Some a) (Some b) → a ≡ b
some_injective a b e = cc

-- what a phase that a domain went through leaves of it
pub record Leaves (x y : DomainView) (kind : Kind) : Type 0 where
  pub number : y.own.number ≡ x.own.number
  pub serial : y.own.serial ≡ x.own.serial
  pub room : x.own.ephemerons.room ≤ y.own.ephemerons.room
  pub listed : count_of y.own.finalisers ≡ count_of x.own.finalisers
  pub arrivals : y.own.arrivals ≡ x.own.arrivals + 1
  pub made : y.seen.made ≡ x.seen.made
  pub hunt : x.seen.hunt ≡ Rests → y.seen.hunt ≡ Rests
  pub stage : y.seen.stage ≡ Gone kind
  pub front : IsFrontOf x.own.number y.seen.front x.seen.front

-- it arrived from a view that has all but what its share changed
arrived_leaves : (x y z : DomainView) (kind : Kind) → y ≡ arrived_view z → z.own.number ≡ x.own.number → z.own.serial ≡ x.own.serial → x.own.ephemerons.room ≤ z.own.ephemerons.room → count_of z.own.finalisers ≡ count_of x.own.finalisers → z.own.arrivals ≡ x.own.arrivals → z.seen.made ≡ x.seen.made → (x.seen.hunt ≡ Rests → z.seen.hunt ≡ Rests)
    → kind_in z.seen.stage ≡ kind → IsFrontOf x.own.number z.seen.front x.seen.front → Leaves x y kind
arrived_leaves x y z kind is number serial room listed arrivals made hunt stage front = record {
  number = ap (λ (v : DomainView). v.own.number) is ∙ number;
  serial = ap (λ (v : DomainView). v.own.serial) is ∙ serial;
  room = subst (λ (v : DomainView). x.own.ephemerons.room ≤ v.own.ephemerons.room) (sym is) room;
  listed = ap (λ (v : DomainView). count_of v.own.finalisers) is ∙ listed;
  arrivals = ap (λ (v : DomainView). v.own.arrivals) is ∙ ap (λ (n : ℕ). n + 1) arrivals;
  made = ap (λ (v : DomainView). v.seen.made) is ∙ made;
  hunt = λ at_rest. ap (λ (v : DomainView). v.seen.hunt) is ∙ hunt at_rest;
  stage = ap (λ (v : DomainView). v.seen.stage) is ∙ ap Gone stage;
  front = subst (λ (f : List Entry). IsFrontOf x.own.number f x.seen.front) (sym (ap (λ (v : DomainView). v.seen.front) is)) front;
}

no_less : (n : ℕ) → n ≤ n
no_less n = omega arith

-- a view that is the one at the begin of the phase, but for what a share changes
record Same (b z : DomainView) : Type 0 where
  number : z.own.number ≡ b.own.number
  serial : z.own.serial ≡ b.own.serial
  room : b.own.ephemerons.room ≤ z.own.ephemerons.room
  listed : count_of z.own.finalisers ≡ count_of b.own.finalisers
  arrivals : z.own.arrivals ≡ b.own.arrivals
  made : z.seen.made ≡ b.seen.made
  hunt : b.seen.hunt ≡ Rests → z.seen.hunt ≡ Rests
  front : IsFrontOf b.own.number z.seen.front b.seen.front

begun_leaves : (k : Config) (x b y z : DomainView) (kind : Kind) → PassedBarrier k x b → Same b z → y ≡ arrived_view z → kind_in z.seen.stage ≡ kind → Leaves x y kind
begun_leaves k x b y z kind p s is stage =
    let number : b.own.number ≡ x.own.number = ap (λ (v : DomainView). v.own.number) p.view in arrived_leaves x y z kind is
    (s.number ∙ number)
    (s.serial ∙ ap (λ (v : DomainView). v.own.serial) p.view)
    (subst (λ (n : ℕ). n ≤ z.own.ephemerons.room) (ap (λ (v : DomainView). v.own.ephemerons.room) p.view) s.room)
    (s.listed ∙ ap (λ (v : DomainView). count_of v.own.finalisers) p.view)
    (s.arrivals ∙ ap (λ (v : DomainView). v.own.arrivals) p.view)
    (s.made ∙ ap (λ (v : DomainView). v.seen.made) p.view)
    (λ at_rest. s.hunt (ap (λ (v : DomainView). v.seen.hunt) p.view ∙ at_rest))
    stage
    (front_trans x.own.number z.seen.front b.seen.front x.seen.front (subst (λ (d : ℕ). IsFrontOf d z.seen.front b.seen.front) number s.front) p.seen)

same_self : (b : DomainView) → Same b b
same_self b = record { number = refl; serial = refl; room = no_less b.own.ephemerons.room; listed = refl; arrivals = refl; made = refl; hunt = λ at_rest. at_rest; front = front_whole b.own.number b.seen.front }

shares_leaves : (k : Config) (x b y : DomainView) (kind : Kind) → PassedBarrier k x b → b.seen.stage ≡ In kind → SharesIn k kind b y → Leaves x y kind
shares_leaves k x b y kind p stage l =
    begun_leaves k x b y (with_shared b y) kind p (record { number = refl; serial = refl; room = l.room; listed = l.registered; arrivals = refl; made = refl; hunt = λ at_rest. at_rest; front = l.front }) l.view (ap kind_in stage)

even_leaves : (k : Config) (x b y : DomainView) (kind : Kind) → PassedBarrier k x b → b.seen.stage ≡ In kind → LeavesEven k kind b y → Leaves x y kind
even_leaves k x b y Run p stage l = absurd l
even_leaves k x b y Promote p stage l =
    let v = l.shared.view in
    begun_leaves k x b y l.done Promote p
    (record {
      number = ap (λ (z : DomainView). z.own.number) v;
      serial = ap (λ (z : DomainView). z.own.serial) v;
      room = subst (λ (z : DomainView). b.own.ephemerons.room ≤ z.own.ephemerons.room) (sym v) (no_less b.own.ephemerons.room);
      listed = sym (bare_count l.done.own.finalisers) ∙ (ap (λ (fs : Finalisers). count_of fs) l.shared.finalisers.rest ∙ bare_count b.own.finalisers);
      arrivals = ap (λ (z : DomainView). z.own.arrivals) v;
      made = ap (λ (z : DomainView). z.seen.made) v;
      hunt = λ _. l.shared.at_rest;
      front = subst (λ (f : List Entry). IsFrontOf b.own.number f b.seen.front) (sym (ap (λ (z : DomainView). z.seen.front) v)) (front_whole b.own.number b.seen.front);
    })
    l.view (ap (λ (z : DomainView). kind_in z.seen.stage) v ∙ ap kind_in stage)
even_leaves k x b y Reset p stage l = begun_leaves k x b y (reset_view b) Reset p (record { number = refl; serial = refl; room = no_less b.own.ephemerons.room; listed = refl; arrivals = refl; made = refl; hunt = λ at_rest. at_rest; front = front_whole b.own.number b.seen.front }) l.view (ap kind_in stage)
even_leaves k x b y Answer p stage l = absurd l
even_leaves k x b y Roots p stage l = shares_leaves k x b y Roots p stage l
even_leaves k x b y Mark p stage l = shares_leaves k x b y Mark p stage l
even_leaves k x b y Rounds p stage l = shares_leaves k x b y Rounds p stage l
even_leaves k x b y Decide p stage l = shares_leaves k x b y Decide p stage l
even_leaves k x b y Queued p stage l = shares_leaves k x b y Queued p stage l
even_leaves k x b y Clean p stage l = shares_leaves k x b y Clean p stage l
even_leaves k x b y Lasts p stage l = shares_leaves k x b y Lasts p stage l
even_leaves k x b y Sweep p stage l = shares_leaves k x b y Sweep p stage l

-- the view that domain 0 arrives from when it has named a kind
abbrev leading_view : (k : Config) (decider : Decider) (b y : DomainView) (last kind : Kind) → LeadsOn k decider b y last kind → DomainView
leading_view k decider b y last kind l = record b { seen = record b.seen { front = y.seen.front; notes = y.seen.notes; stage = Led kind; share = record fresh_share { progress = progress_after last kind b.seen.share.progress; unmarked = unmarked_after k last (Some l.findings.changed) b.seen.share.unmarked } } }

odd_leaves : (decider : Decider) (k : Config) (x b y : DomainView) (last kind : Kind) → PassedBarrier k x b → b.seen.stage ≡ Leads last → LeavesOdd k decider b y last kind → Leaves x y kind
odd_leaves decider k x b y last kind p stage l = ⊎_elim
    (λ (leads : (b.own.number ≡ 0) × LeadsOn k decider b y last kind). begun_leaves k x b y (leading_view k decider b y last kind leads.1) kind p
    (record { number = refl; serial = refl; room = no_less b.own.ephemerons.room; listed = refl; arrivals = refl; made = refl; hunt = λ at_rest. at_rest; front = leads.1.seen }) leads.1.view refl)
    (λ (follows : (b.own.number ≢ 0) × (kind ≡ last) × (y ≡ arrived_view b)). begun_leaves k x b y b kind p (same_self b) follows.2 (ap kind_in stage ∙ sym follows.1)) l

pub passes_leaves : (decider : Decider) (k : Config) (x y : DomainView) (last kind : Kind) → Passes k decider x y last kind → Leaves x y kind
passes_leaves decider k x y last kind p = ⊎_elim
    (λ (even : IsEven x.own.arrivals × (p.begun.seen.stage ≡ In kind) × Comes x.own.number last kind × IsModeOf kind (state_of k p.begun.seen.front).mode × LeavesEven k kind p.begun y). even_leaves k x p.begun y kind p.passed even.1 even.4)
    (λ (odd : IsOdd x.own.arrivals × (p.begun.seen.stage ≡ Leads last) × LeavesOdd k decider p.begun y last kind). odd_leaves decider k x p.begun y last kind p.passed odd.1 odd.2)
    p.share

-- where Collected was appended the collection is to be answered
collected_mode : (k : Config) (b y : DomainView) → EndsWith k b y Collected → (state_of k y.seen.front).mode ≡ AnswerMode
collected_mode k b y ends = ap (λ (h : List Entry). (state_of k h).mode) ends.front ∙ ap (λ (s : model.State). s.mode) (state_after-push (opening (sizes_in k)) ends.before Collected)

-- domain 0 has named a kind
leads_ready : (decider : Decider) (k : Config) (b y : DomainView) (last kind : Kind) → b.own.number < k.domains → LeadsOn k decider b y last kind → IsPast k last b → IsReady k kind y
leads_ready decider k b y last kind inside l past =
    let number : y.own.number ≡ b.own.number = ap (λ (v : DomainView). v.own.number) l.view in
    let knows : last ≡ Sweep → KnowsAnswer k y = λ e. answer_on k b y inside number l.seen (past.answer e) in
    record {
      before = last;
      follows = l.follows;
      past = past_as k last b y (keeps_as b y _ l.view refl refl refl refl (same_held b)) (arrived_void y (leading_view k decider b y last kind l) l.view) knows past;
      fresh = λ e. let swept : last ≡ Sweep = before_answer last (subst (Follows last) e l.follows) in
          knows swept (collected_mode k b y (l.made Collected (ap (λ (c : Kind). entry_of b.seen.share.progress.unswept c kind) swept ∙ ap (entry_of b.seen.share.progress.unswept Sweep) e)));
    }

-- what the domain then remembers and holds
passes_past : (decider : Decider) (k : Config) (x y : DomainView) (last kind : Kind) → x.own.number < k.domains → Passes k decider x y last kind → HasLeft k last x → HasLeft k kind y
passes_past decider k x y last kind inside p left =
    let l = passes_leaves decider k x y last kind p in
    let number : p.begun.own.number ≡ x.own.number = ap (λ (z : DomainView). z.own.number) p.passed.view in
    let within : p.begun.own.number < k.domains = subst (λ (n : ℕ). n < k.domains) (sym number) inside in ⊎_elim
    (λ (even : IsEven x.own.arrivals × (p.begun.seen.stage ≡ In kind) × Comes x.own.number last kind × IsModeOf kind (state_of k p.begun.seen.front).mode × LeavesEven k kind p.begun y). record {
      past = λ _. even_past k kind p.begun y even.4 even.3 (ready_next k last kind x p.begun inside left p.passed even.0 even.2 even.3);
      ready = λ again _. absurd (not_both y.own.arrivals again (subst IsOdd (sym l.arrivals) (even_next x.own.arrivals even.0)));
    })
    (λ (odd : IsOdd x.own.arrivals × (p.begun.seen.stage ≡ Leads last) × LeavesOdd k decider p.begun y last kind).
    let went : IsPast k last p.begun = looked_past k last x p.begun inside p.passed (left.past (inl odd.0)) in
    let even : IsEven y.own.arrivals = subst IsEven (sym l.arrivals) (odd_next x.own.arrivals odd.0) in ⊎_elim
    (λ (leads : (p.begun.own.number ≡ 0) × LeadsOn k decider p.begun y last kind). record {
      past = λ either. absurd (⊎_elim (λ (up : IsOdd y.own.arrivals). not_both y.own.arrivals even up) (λ (other : y.own.number ≢ 0). other (l.number ∙ (sym number ∙ leads.0))) either);
      ready = λ _ _. leads_ready decider k p.begun y last kind within leads.1 went;
    })
    (λ (follows : (p.begun.own.number ≢ 0) × (kind ≡ last) × (y ≡ arrived_view p.begun)). record {
      past = λ _. subst (λ (c : Kind). IsPast k c y) (sym follows.1)
          (past_as k last p.begun y (keeps_as p.begun y _ follows.2 refl refl refl refl (same_held p.begun)) (arrived_void y p.begun follows.2) (λ e. subst (KnowsAnswer k) (sym follows.2) (went.answer e)) went);
      ready = λ _ first. absurd (follows.0 (number ∙ (sym l.number ∙ first)));
    })
    odd.2)
    p.share

passes_quiet : (decider : Decider) (k : Config) (x y : DomainView) (last kind : Kind) → Passes k decider x y last kind → HasNothingPending x → HasNothingPending y
passes_quiet decider k x y last kind p quiet =
    let q = looked_quiet k x p.begun p.passed quiet in ⊎_elim
    (λ (even : IsEven x.own.arrivals × (p.begun.seen.stage ≡ In kind) × Comes x.own.number last kind × IsModeOf kind (state_of k p.begun.seen.front).mode × LeavesEven k kind p.begun y). even_quiet k kind p.begun y even.4 q)
    (λ (odd : IsOdd x.own.arrivals × (p.begun.seen.stage ≡ Leads last) × LeavesOdd k decider p.begun y last kind). ⊎_elim
    (λ (leads : (p.begun.own.number ≡ 0) × LeadsOn k decider p.begun y last kind). arrived_quiet (leading_view k decider p.begun y last kind leads.1) y leads.1.view q.unprepared)
    (λ (follows : (p.begun.own.number ≢ 0) × (kind ≡ last) × (y ≡ arrived_view p.begun)). arrived_quiet p.begun y follows.2 q.unprepared)
    odd.2)
    p.share

-- who keeps how far a collection has come still does where that hasn't changed
pub knows_on : (x y : DomainView) (p : Progress) → y.own.number ≡ x.own.number → y.seen.share.progress ≡ x.seen.share.progress → KnowsProgress p x → KnowsProgress p y
knows_on x y p number same knows first = knows (sym number ∙ first) ∙ sym same

pub looked_knows : (k : Config) (x y : DomainView) (p : Progress) → PassedBarrier k x y → KnowsProgress p x → KnowsProgress p y
looked_knows k x y p passed = knows_on x y p (ap (λ (v : DomainView). v.own.number) passed.view) (ap (λ (v : DomainView). v.seen.share.progress) passed.view)

-- in an even phase it hasn't
even_progress : (k : Config) (kind : Kind) (b y : DomainView) → LeavesEven k kind b y → y.seen.share.progress ≡ b.seen.share.progress
even_progress k Run b y l = absurd l
even_progress k Promote b y l = ap (λ (v : DomainView). v.seen.share.progress) l.view ∙ ap (λ (v : DomainView). v.seen.share.progress) l.shared.view
even_progress k Reset b y l = ap (λ (v : DomainView). v.seen.share.progress) l.view
even_progress k Answer b y l = absurd l
even_progress k Roots b y l = ap (λ (v : DomainView). v.seen.share.progress) l.view
even_progress k Mark b y l = ap (λ (v : DomainView). v.seen.share.progress) l.view
even_progress k Rounds b y l = ap (λ (v : DomainView). v.seen.share.progress) l.view
even_progress k Decide b y l = ap (λ (v : DomainView). v.seen.share.progress) l.view
even_progress k Queued b y l = ap (λ (v : DomainView). v.seen.share.progress) l.view
even_progress k Clean b y l = ap (λ (v : DomainView). v.seen.share.progress) l.view
even_progress k Lasts b y l = ap (λ (v : DomainView). v.seen.share.progress) l.view
even_progress k Sweep b y l = ap (λ (v : DomainView). v.seen.share.progress) l.view

pub even_knows : (k : Config) (kind : Kind) (x b y : DomainView) (p : Progress) → PassedBarrier k x b → b.seen.stage ≡ In kind → LeavesEven k kind b y → KnowsProgress p x → KnowsProgress p y
even_knows k kind x b y p passed stage l knows = knows_on b y p (sym (ap (λ (v : DomainView). v.own.number) passed.view ∙ sym (even_leaves k x b y kind passed stage l).number)) (even_progress k kind b y l) (looked_knows k x b p passed knows)

-- nor where a collection is answered
answered_knows : (k : Config) (b y : DomainView) (live : Bool) (blocks : ℕ) (o : Option Reply) (p : Progress) → AnswersFrom k b y live blocks o → KnowsProgress p b → KnowsProgress p y
answered_knows k b y live blocks None p a = knows_on b y p (ap (λ (v : DomainView). v.own.number) a.1) (ap (λ (v : DomainView). v.seen.share.progress) a.1)
answered_knows k b y live blocks (Some reply) p a = knows_on b y p (ap (λ (v : DomainView). v.own.number) a.1.2 ∙ ap (λ (v : DomainView). v.own.number) a.1.1.view) (ap (λ (v : DomainView). v.seen.share.progress) a.1.2 ∙ ap (λ (v : DomainView). v.seen.share.progress) a.1.1.view)

pub answer_knows : (k : Config) (b y : DomainView) (live : Bool) (blocks : ℕ) (o : Option Reply) (p : Progress) → CountsAndAnswers k b y live blocks o → KnowsProgress p b → KnowsProgress p y
answer_knows k b y live blocks o p a knows = answered_knows k a.0 y live blocks o p a.2 (knows_on b a.0 p (ap (λ (v : DomainView). v.own.number) a.1.view) (ap (λ (v : DomainView). v.seen.share.progress) a.1.view) knows)

-- who comes to a phase in which a collection is answered, and leaves it with this front
answer_past : (k : Config) (x begun y : DomainView) (front : List Entry) → ComesToAnswer k x begun → y ≡ gave_back (with_front begun front) y → HasLeft k Answer y
answer_past k x begun y front c is =
    let arrivals : y.own.arrivals ≡ x.own.arrivals + 1 = ap (λ (v : DomainView). v.own.arrivals) is ∙ ap (λ (v : DomainView). v.own.arrivals + 1) c.passed.view in record {
      past = λ _. later_past k Answer begun y (keeps_as begun y _ is refl refl refl refl (same_held begun)) (arrived_void y (sunk (with_front begun front) y) is) (λ e. cc) (λ e. cc) (λ e. cc) (λ e. cc) c.ready;
      ready = λ again _. absurd (not_both y.own.arrivals again (subst IsOdd (sym arrivals) (even_next x.own.arrivals c.even)));
    }

-- its run stands between two turns then
pub answer_between : (h : SharedHeap) (x begun : DomainView) (new : Token) (front : List Entry) (asked : Option ℕ) (collected : Bool) (progress : Progress) → IsIn new h → HasNothingPending x → ComesToAnswer h.config x begun
    → new.view ≡ gave_back (with_front begun front) new.view → (collected ≡ true → IsFresh h.config new.view) → KnowsProgress progress new.view → IsBetween (Some Answer) asked collected progress new
answer_between h x begun new front asked collected progress i quiet c is fresh knows = record {
  stands = ap (λ (v : DomainView). v.seen.stage) is ∙ ap Gone (ap kind_in c.stage);
  quiet = arrived_quiet (sunk (with_front begun front) new.view) new.view is (looked_quiet h.config x begun c.passed quiet).unprepared;
  even = λ none. cc;
  remembers = λ none. cc;
  emptied = λ none. cc;
  has_left = λ known e. subst (λ (kind : Kind). HasLeft new.config kind new.view) (some_injective Answer known e) (subst (λ (k : Config). HasLeft k Answer new.view) (sym i.1) (answer_past h.config x begun new.view front c is));
  fresh = λ e. subst (λ (k : Config). IsFresh k new.view) (sym i.1) (fresh e);
  knows = knows;
}

pub gives_moves : (h : SharedHeap) (old new : Token) → IsIn old h → IsIn new h → GivesBack h.config old.view new.view → Moves old new
gives_moves h old new a i g =
    let passed = g.comes.passed in
    let number : g.begun.own.number ≡ old.view.own.number = ap (λ (z : DomainView). z.own.number) passed.view in
    let front : List Entry = new.view.seen.front in
    view_moves h old new (gave_back (with_front g.begun front) new.view) a i g.view number (ap (λ (z : DomainView). z.own.serial) passed.view) (ap (λ (z : DomainView). z.own.ephemerons) passed.view) (ap (λ (z : DomainView). z.own.finalisers) passed.view) (ap (λ (z : DomainView). z.seen.made) passed.view) (ap (λ (z : DomainView). z.seen.hunt) passed.view)
    (front_trans old.view.own.number front g.begun.seen.front old.view.seen.front (subst (λ (d : ℕ). IsFrontOf d front g.begun.seen.front) number g.seen) passed.seen)

pub gives_between : (h : SharedHeap) (old new : Token) (asked : Option ℕ) (collected : Bool) (progress : Progress) → IsIn new h → HasNothingPending old.view → GivesBack h.config old.view new.view → KnowsProgress progress new.view → IsBetween (Some Answer) asked collected progress new
gives_between h old new asked collected progress i quiet g knows = answer_between h old.view g.begun new new.view.seen.front asked collected progress i quiet g.comes g.view
    (λ _. fresh_on h.config g.begun new.view (ap (λ (z : DomainView). z.own.number) g.view) g.seen (g.comes.ready.fresh refl)) knows

pub passes_moves : (decider : Decider) (h : SharedHeap) (old new : Token) (before kind : Kind) → IsIn old h → IsIn new h → Passes h.config decider old.view new.view before kind → Moves old new
passes_moves decider h old new before kind a i says =
    let l = passes_leaves decider h.config old.view new.view before kind says in
    record {
      config = i.1 ∙ sym a.1;
      number = l.number;
      serial = l.serial;
      room = l.room;
      listed = l.listed;
      made = l.made;
      hunt = l.hunt;
      front = l.front;
    }

-- a run of which nothing but the domain's view has changed stays between two turns
pub passes_between : (decider : Decider) (h : SharedHeap) (old new : Token) (before kind : Kind) (asked : Option ℕ) (collected : Bool) (progress later : Progress) → old.view.own.number < old.config.domains → IsIn old h → IsIn new h → IsBetween (Some before) asked collected progress old
    → Passes h.config decider old.view new.view before kind → KnowsProgress later new.view → IsBetween (Some kind) asked collected later new
passes_between decider h old new before kind asked collected progress later inside a i is says knows = record {
  stands = (passes_leaves decider h.config old.view new.view before kind says).stage;
  quiet = passes_quiet decider h.config old.view new.view before kind says is.quiet;
  even = λ none. cc;
  remembers = λ none. cc;
  emptied = λ none. cc;
  has_left = λ known e. subst (λ (c : Kind). HasLeft new.config c new.view) (some_injective kind known e)
      (subst (λ (k : Config). HasLeft k kind new.view) (sym i.1) (passes_past decider h.config old.view new.view before kind (subst (λ (k : Config). old.view.own.number < k.domains) a.1 inside) says (subst (λ (k : Config). HasLeft k before old.view) a.1 (is.has_left before refl))));
  fresh = λ e. let l = passes_leaves decider h.config old.view new.view before kind says in
      subst (λ (k : Config). IsFresh k new.view) (sym i.1) (fresh_on h.config old.view new.view l.number l.front (subst (λ (k : Config). IsFresh k old.view) a.1 (is.fresh e)));
  knows = knows;
}

pub waits_between : (h : SharedHeap) (old new : Token) (before : Kind) (asked : Option ℕ) (collected : Bool) (progress later : Progress) (b : ℕ) → IsIn old h → IsIn new h → IsBetween (Some before) asked collected progress old → new.view ≡ noted old.view (Barrier b)
    → KnowsProgress later new.view → IsBetween (Some before) asked collected later new
waits_between h old new before asked collected progress later b a i is says knows =
    let config : new.config ≡ old.config = i.1 ∙ sym a.1 in record {
      stands = ap (λ (x : DomainView). x.seen.stage) says ∙ is.stands;
      quiet = quiet_as old.view new.view (ap (λ (x : DomainView). x.seen.copying) says) (ap (λ (x : DomainView). x.own.pending) says) (ap (λ (x : DomainView). x.own.prepared) says) (ap (λ (x : DomainView). x.seen.share.weak) says) is.quiet;
      even = λ none. cc;
      remembers = λ none. cc;
      emptied = λ none. cc;
      has_left = λ known e. subst (λ (z : Config × DomainView). HasLeft z.0 known z.1) (λ j. (sym config j, sym says j)) (noted_left old.config known old.view (Barrier b) (is.has_left known e));
      fresh = λ e. subst (λ (z : Config × DomainView). IsFresh z.0 z.1) (λ j. (sym config j, sym says j)) (is.fresh e);
      knows = knows;
    }
