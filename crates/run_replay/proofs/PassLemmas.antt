-- One step in a pause of one domain.
use Rattle.std.proofs.Common.{length, ◌≡◌, ◌≢◌, ◌∙◌, ◌++◌, ◌∷◌, ◌<◌, ◌≤◌, ◌+◌, ◌*◌, ◌%◌, ℕ, zero, suc, Bool, List, [], Option, Some, None, true, false, if◌then◌else◌, add-one, ap, drop, refl, slice_get, sym, subst, inl, inr, ⊎_elim, arith}
use Rattle.std.proofs.lemmas.Bool.{eq-eqb, le-ltb, lt-ltb, ne_eqb}
use Rattle.model_core.specs.declared.command.Command as model
use Rattle.model_core.specs.declared.command.Command.TheVariants.{FullMajor}
use Rattle.model_core.specs.declared.entry.Entry.{Entry}
use Rattle.model_core.specs.declared.entry.Entry.TheVariants.{Command as CommandOf}
use Rattle.model_core.specs.Fronts.{IsFrontOf}
use Rattle.model_core.specs.Controls.Led.{IsLed}
use Rattle.heap_rule.specs.declared.config.Config.{Config}
use Rattle.heap_rule.specs.declared.phase.Kind.{Kind}
use Rattle.heap_rule.specs.declared.phase.Kind.TheVariants.{Run, Promote, Reset, Roots, Mark, Rounds, Decide, Queued, Clean, Lasts, Sweep, Answer}
use Rattle.heap_rule.specs.declared.phase.Progress.{Progress}
use Rattle.heap_rule.specs.declared.phase.Stage.{Stage}
use Rattle.heap_rule.specs.declared.phase.Stage.TheVariants.{In, Leads as Leading}
use Rattle.heap_rule.specs.declared.view.DomainView.{DomainView}
use Rattle.heap_rule.specs.Phases.{Comes, IsEven, IsOdd}
use Rattle.heap_rule.specs.Rule.{state_of}
use Rattle.heap_rule.specs.Token.{SharedHeap}
use Rattle.step_pauses.specs.Pauses.{IsModeOf, arrived_view, entry_of, kind_in, progress_after}
use Rattle.gc_pause.specs.Stops.Looks.{PassedBarrier}
use Rattle.gc_pause.specs.declared.phases.decider.Decider.TheVariants.{Caller}
use Rattle.gc_pause.specs.Phases.Leading.{LeadsOn, next_kind}
use Rattle.run_turns.specs.declared.turned.Turned.{Turned}
use Rattle.run_turns.specs.declared.turned.Turned.TheVariants.{Did, Waiting, Hungry, Held, Idle, Ended}
use Rattle.run_turns.specs.Pausing.{ComesToAnswer, KnowsProgress, LeavesEven, LeavesOdd}
use Rattle.run_turns.specs.Runs.{GoesBy, IsRun, PassesOn, Resumes, RunView, SeesAnswer, StandsAt, Waits}
use Rattle.run_turns.specs.Runs.{IsAnswered as RunIsAnswered}
use Rattle.run_turns.proofs.PauseLemmas.{even_next, odd_next}
use Rattle.run_turns.proofs.LeavingLemmas.{Leaves, even_knows, knows_on, passes_leaves}
use Rattle.text_script.specs.Schedule.Drive.Together.{IsntAnswered, Lead, LeadStep, Rests, Leads, Answers}
use Rattle.run_replay.specs.Asking.{AsksOnce}
use Rattle.run_replay.specs.Gathered.{PassedBy, Steps, Walk, asked_for, is_even, is_running, lead_in, lead_of, one_run, paused_for}
use Rattle.run_replay.specs.Walk.{IsWalk, controls_of, lead_left, lead_named}
use Rattle.run_replay.proofs.Grown.{Grown, grown_same, grown_twice, led_before, steps_control, steps_none, steps_one}
use Rattle.run_replay.proofs.Walk.{Goes, walk_goes}

-- the commands from the next on
pub drop_next : (cs : List model.Command) (n : ℕ) (c : model.Command) → slice_get cs n ≡ Some c → drop n cs ≡ c ∷ drop (n + 1) cs
drop_next cs n c at = go cs n at ∙ ap (λ (m : ℕ). c ∷ drop m cs) (sym (add-one n)) where
  go : (cs : List model.Command) (n : ℕ) → slice_get cs n ≡ Some c → drop n cs ≡ c ∷ drop (suc n) cs
  go [] n at = cc
  go (x ∷ xs) zero at = let is : x ≡ c = cc in ap (λ (y : model.Command). y ∷ xs) is
  go (x ∷ xs) (suc n) at = go xs n at

-- nothing is asked for where the run has asked for nothing
pub unasked : (cs : List model.Command) → asked_for cs None ≡ false
unasked [] = refl
unasked (c ∷ cs) = refl

pub unpaused : (cs : List model.Command) (arrivals : ℕ) → paused_for cs None arrivals ≡ false
unpaused [] arrivals = refl
unpaused (c ∷ cs) arrivals = refl

-- nor has a pause begun since it asked now
pub paused_now : (cs : List model.Command) (arrivals : ℕ) → paused_for cs (Some arrivals) arrivals ≡ false
paused_now [] arrivals = refl
paused_now (c ∷ cs) arrivals = le-ltb arrivals arrivals (omega arith)

-- one that has begun has begun still
pub paused_on : (cs : List model.Command) (asked : Option ℕ) (old new : ℕ) → ((n : ℕ) → asked ≡ Some n → n < old) → old ≤ new → paused_for cs asked new ≡ paused_for cs asked old
paused_on [] asked old new less more = refl
paused_on (c ∷ cs) None old new less more = refl
paused_on (c ∷ cs) (Some n) old new less more = let low = less n refl in lt-ltb n new (omega (arith, low, more)) ∙ sym (lt-ltb n old low)

-- whether a number is even
pub even_is : (n : ℕ) → IsEven n → is_even n ≡ true
even_is n e = eq-eqb (n % 2) 0 (let j : ℕ = e.0 in let is : n ≡ j * 2 = e.1 in omega arith)

pub odd_is : (n : ℕ) → IsOdd n → is_even n ≡ false
odd_is n o = ne_eqb (n % 2) 0 (λ z. let j : ℕ = o.0 in let is : n ≡ j * 2 + 1 = o.1 in omega arith)

-- how far domain 0 has led, as it has named a kind or gone through it
lead_even : (complete : Bool) (n : ℕ) (kind : Kind) → IsEven n → lead_in complete n (Some kind) ≡ lead_named complete kind
lead_even complete n Run e = ap (λ (b : Bool). if b then Rests else Leads complete) (even_is n e)
lead_even complete n Promote e = refl
lead_even complete n Reset e = refl
lead_even complete n Roots e = refl
lead_even complete n Mark e = refl
lead_even complete n Rounds e = refl
lead_even complete n Decide e = refl
lead_even complete n Queued e = refl
lead_even complete n Clean e = refl
lead_even complete n Lasts e = refl
lead_even complete n Sweep e = refl
lead_even complete n Answer e = refl

lead_odd : (complete : Bool) (n : ℕ) (kind : Kind) → IsOdd n → lead_in complete n (Some kind) ≡ lead_left complete kind
lead_odd complete n Run o = ap (λ (b : Bool). if b then Rests else Leads complete) (odd_is n o)
lead_odd complete n Promote o = refl
lead_odd complete n Reset o = refl
lead_odd complete n Roots o = refl
lead_odd complete n Mark o = refl
lead_odd complete n Rounds o = refl
lead_odd complete n Decide o = refl
lead_odd complete n Queued o = refl
lead_odd complete n Clean o = refl
lead_odd complete n Lasts o = refl
lead_odd complete n Sweep o = refl
lead_odd complete n Answer o = refl

lead_stays : (l : Lead) → LeadStep l l []
lead_stays Rests = refl
lead_stays (Leads true) = inl refl
lead_stays (Leads false) = refl
lead_stays Answers = refl

lead_as : (a b c e : Lead) (control : List Entry) → a ≡ b → c ≡ e → LeadStep b e control → LeadStep a c control
lead_as a b c e control p q step = subst (λ (l : Lead × Lead). LeadStep l.0 l.1 control) (λ i. (sym p i, sym q i)) step

-- in an even phase domain 0 leads no further
lead_through : (k : Config) (complete : Bool) (kind : Kind) (b y : DomainView) → LeavesEven k kind b y → LeadStep (lead_named complete kind) (lead_left complete kind) []
lead_through k complete Run b y l = absurd l
lead_through k complete Promote b y l = lead_stays (Leads complete)
lead_through k complete Reset b y l = lead_stays (Leads complete)
lead_through k complete Roots b y l = lead_stays (Leads complete)
lead_through k complete Mark b y l = lead_stays (Leads complete)
lead_through k complete Rounds b y l = lead_stays (Leads complete)
lead_through k complete Decide b y l = lead_stays (Leads complete)
lead_through k complete Queued b y l = lead_stays (Leads complete)
lead_through k complete Clean b y l = lead_stays (Leads complete)
lead_through k complete Lasts b y l = lead_stays (Leads complete)
lead_through k complete Sweep b y l = lead_stays (Leads complete)
lead_through k complete Answer b y l = absurd l

-- and the front grows by others' entries
even_front : (k : Config) (kind : Kind) (b y : DomainView) → LeavesEven k kind b y → Grown b.own.number y.seen.front b.seen.front
even_front k Run b y l = absurd l
even_front k Promote b y l = grown_same b.own.number y.seen.front b.seen.front (ap (λ (v : DomainView). v.seen.front) l.view ∙ ap (λ (v : DomainView). v.seen.front) l.shared.view)
even_front k Reset b y l = grown_same b.own.number y.seen.front b.seen.front (ap (λ (v : DomainView). v.seen.front) l.view)
even_front k Roots b y l = (l.front, l.led)
even_front k Mark b y l = (l.front, l.led)
even_front k Rounds b y l = (l.front, l.led)
even_front k Decide b y l = (l.front, l.led)
even_front k Queued b y l = (l.front, l.led)
even_front k Clean b y l = (l.front, l.led)
even_front k Lasts b y l = (l.front, l.led)
even_front k Sweep b y l = (l.front, l.led)
even_front k Answer b y l = absurd l

-- what a look at the barrier shows
passed_front : (k : Config) (x b : DomainView) → PassedBarrier k x b → Grown x.own.number b.seen.front x.seen.front
passed_front k x b p = (p.seen, p.led)

passed_number : (k : Config) (x b : DomainView) → PassedBarrier k x b → b.own.number ≡ x.own.number
passed_number k x b p = ap (λ (v : DomainView). v.own.number) p.view

pub stands_gone : (left : Option Kind) (kind : Kind) (stage : Stage) → left ≡ Some kind → StandsAt left stage → kind_in stage ≡ kind
stands_gone left kind stage is stands = ap kind_in (subst (λ (o : Option Kind). StandsAt o stage) is stands)

module _ (h : SharedHeap) (complete : Bool) (r s : RunView) (is : IsRun r) (now : IsRun s) (asks : AsksOnce r) (gone : r.left ≢ None) where
  abbrev d : ℕ
  d = r.token.view.own.number

  abbrev x : DomainView
  x = r.token.view

  abbrev y : DomainView
  y = s.token.view

  -- a pause that it asked for has begun already
  paused_same : x.own.arrivals ≤ y.own.arrivals → paused_for (drop r.next r.commands) r.asked y.own.arrivals ≡ (one_run r).paused
  paused_same more = paused_on (drop r.next r.commands) r.asked x.own.arrivals y.own.arrivals (asks.arrived gone) more

  paused_more : y.own.arrivals ≡ x.own.arrivals + 1 → paused_for (drop r.next r.commands) r.asked y.own.arrivals ≡ (one_run r).paused
  paused_more one = paused_same (omega (arith, one))

  -- what domain 0 keeps stays as it is where its view says so
  same_progress : y.own.number ≡ x.own.number → KnowsProgress r.progress y → d ≡ 0 → s.progress ≡ r.progress
  same_progress number knows first = now.between.knows (number ∙ first) ∙ sym (knows (number ∙ first))

  walk_same : Walk complete r → s.progress ≡ r.progress → ((kind : Kind) → s.left ≡ Some kind → r.left ≡ Some kind) → Walk complete s
  walk_same w same left = record {
    armed = ap (λ (p : Progress). p.armed) same ∙ w.armed;
    unswept = ap (λ (p : Progress). p.unswept) same ∙ w.unswept;
    on = λ kind at. subst (IsWalk complete kind) (sym same) (w.on kind (left kind at));
  }

  walk_named : (kind : Kind) → s.left ≡ Some kind → IsWalk complete kind s.progress → Walk complete s
  walk_named kind left on = record {
    armed = on.armed;
    unswept = on.unswept;
    on = λ other at. subst (λ (o : Option Kind). (c : Kind) → o ≡ Some c → IsWalk complete c s.progress) (sym left) (λ c e. let same : kind ≡ c = cc in subst (λ (n : Kind). IsWalk complete n s.progress) same on) other at;
  }

  -- not all have arrived
  waits : (b : ℕ) → Waits h r s b → (d ≡ 0 → Walk complete r) → PassedBy complete d r s
  waits b w walk = record {
    control = [];
    leads = λ _. lead_as (lead_of complete r) (lead_of complete r) (lead_of complete s) (lead_of complete r) [] refl (ap (lead_of complete) w.run) (lead_stays (lead_of complete r));
    silent = λ _. refl;
    own = [];
    tells = inr record { made = refl; run = ap one_run w.run ∙ λ i. record (one_run r) { runs = is_running (sym (ap (λ (z : RunView). z.left) w.run) i); waiting = sym (ap (λ (z : RunView). length z.token.view.own.finalisers.queue.items) w.run) i } };
    steps = steps_none d y.seen.front x.seen.front (grown_same d y.seen.front x.seen.front (ap (λ (z : RunView). z.token.view.seen.front) w.run));
    walk = λ first. walk_same (walk first) (same_progress number (knows_on x y r.progress number (ap (λ (z : RunView). z.token.view.seen.share.progress) w.run) is.between.knows) first) (λ kind at. sym (ap (λ (z : RunView). z.left) w.run) ∙ at);
  }
    where
      number : y.own.number ≡ x.own.number
      number = ap (λ (z : RunView). z.token.view.own.number) w.run

  -- it went through the phase that had begun
  module _ (g : GoesBy h (Caller complete) r s) where
    leaves : Leaves x y g.kind
    leaves = passes_leaves (Caller complete) h.config x y g.last g.kind g.passes

    left_is : s.left ≡ Some g.kind
    left_is = ap (λ (z : RunView). z.left) g.run

    isnt : IsntAnswered (one_run r) (one_run s) []
    isnt = record { made = refl; run = ap one_run g.run ∙ λ i. record (one_run r) { paused = paused_more leaves.arrivals i; runs = is_running (sym left_is i); waiting = length y.own.finalisers.queue.items } }

    lead_was : lead_of complete r ≡ lead_in complete x.own.arrivals (Some g.last)
    lead_was = ap (lead_in complete x.own.arrivals) g.arrived

    lead_now : lead_of complete s ≡ lead_in complete y.own.arrivals (Some g.kind)
    lead_now = ap (lead_in complete y.own.arrivals) left_is

    -- with no entry, or with the one of the way that domain 0 goes
    went : (control : List Entry) → (d ≡ 0 → LeadStep (lead_of complete r) (lead_of complete s) control) → (d ≢ 0 → control ≡ []) → Steps d x.seen.front y.seen.front (control ++ []) → (d ≡ 0 → Walk complete s) → PassedBy complete d r s
    went control leads silent steps walk = record { control = control; leads = leads; silent = silent; own = []; tells = inr isnt; steps = steps; walk = walk }

    abbrev begun : DomainView
    begun = g.passes.begun

    begun_number : begun.own.number ≡ d
    begun_number = passed_number h.config x begun g.passes.passed

    -- in an even phase
    even : IsEven x.own.arrivals → begun.seen.stage ≡ In g.kind → Comes d g.last g.kind → LeavesEven h.config g.kind begun y → (d ≡ 0 → Walk complete r) → PassedBy complete d r s
    even e stage comes l walk =
        let front : Grown d y.seen.front begun.seen.front = subst (λ (n : ℕ). Grown n y.seen.front begun.seen.front) begun_number (even_front h.config g.kind begun y l) in
        let odd : IsOdd y.own.arrivals = subst IsOdd (sym leaves.arrivals) (even_next x.own.arrivals e) in
        went [] (λ first. lead_as (lead_of complete r) (lead_named complete g.kind) (lead_of complete s) (lead_left complete g.kind) []
        (lead_was ∙ (lead_even complete x.own.arrivals g.last e ∙ ap (lead_named complete) (sym (comes.0 first)))) (lead_now ∙ lead_odd complete y.own.arrivals g.kind odd) (lead_through h.config complete g.kind begun y l))
        (λ _. refl)
        (steps_none d y.seen.front x.seen.front (grown_twice d y.seen.front begun.seen.front x.seen.front front (passed_front h.config x begun g.passes.passed)))
        (λ first. walk_same (walk first) (same_progress leaves.number (even_knows h.config g.kind x begun y r.progress g.passes.passed stage l is.between.knows) first)
        (λ kind at. g.arrived ∙ (ap Some (sym (comes.0 first)) ∙ (sym left_is ∙ at))))

    -- in an odd one domain 0 names the next kind
    leads_on : IsOdd x.own.arrivals → begun.own.number ≡ 0 → LeadsOn h.config (Caller complete) begun y g.last g.kind → (d ≡ 0 → Walk complete r) → PassedBy complete d r s
    leads_on odd leader l walk =
        let first : d ≡ 0 = sym begun_number ∙ leader in
        let before : begun.seen.share.progress ≡ r.progress = ap (λ (v : DomainView). v.seen.share.progress) g.passes.passed.view ∙ sym (is.between.knows first) in
        let after : s.progress ≡ progress_after g.last g.kind r.progress = now.between.knows (leaves.number ∙ first) ∙ (ap (λ (v : DomainView). v.seen.share.progress) l.view ∙ ap (progress_after g.last g.kind) before) in
        let chosen : g.kind ≡ next_kind h.config (Caller complete) g.last r.progress l.findings = l.chosen ∙ ap (λ (p : Progress). next_kind h.config (Caller complete) g.last p l.findings) before in
        let goes : Goes complete g.last g.kind r.progress = subst (λ (n : Kind). Goes complete g.last n r.progress) (sym chosen) (walk_goes h.config l.findings complete g.last r.progress ((walk first).on g.last g.arrived)) in
        let even : IsEven y.own.arrivals = subst IsEven (sym leaves.arrivals) (odd_next x.own.arrivals odd) in
        let owed : r.progress.unswept ≡ begun.seen.share.progress.unswept = ap (λ (p : Progress). p.unswept) (sym before) in
        let o : Option Entry = entry_of begun.seen.share.progress.unswept g.last g.kind in
        let seen : Grown d begun.seen.front x.seen.front = passed_front h.config x begun g.passes.passed in
        went (controls_of o)
        (λ _. lead_as (lead_of complete r) (lead_left complete g.last) (lead_of complete s) (lead_named complete g.kind) (controls_of o) (lead_was ∙ lead_odd complete x.own.arrivals g.last odd) (lead_now ∙ lead_even complete y.own.arrivals g.kind even)
        (subst (λ (b : Bool). LeadStep (lead_left complete g.last) (lead_named complete g.kind) (controls_of (entry_of b g.last g.kind))) owed goes.step))
        (λ other. absurd (other first))
        (steps_control d y.seen.front x.seen.front o
        (λ none. grown_twice d y.seen.front begun.seen.front x.seen.front (grown_same d y.seen.front begun.seen.front (l.stays none)) seen)
        (λ e made. let m = l.made e made in (m.before, (grown_twice d m.before begun.seen.front x.seen.front (subst (λ (n : ℕ). IsFrontOf n m.before begun.seen.front) begun_number m.seen, λ _. m.led) seen, m.front))))
        (λ _. walk_named g.kind left_is (subst (IsWalk complete g.kind) (sym after) goes.on))

    -- and the others arrive
    follows : IsOdd x.own.arrivals → begun.own.number ≢ 0 → y ≡ arrived_view begun → PassedBy complete d r s
    follows o other view =
        let later : d ≢ 0 = λ first. other (begun_number ∙ first) in
        went [] (λ first. absurd (later first)) (λ _. refl)
        (steps_none d y.seen.front x.seen.front (grown_twice d y.seen.front begun.seen.front x.seen.front (grown_same d y.seen.front begun.seen.front (ap (λ (v : DomainView). v.seen.front) view)) (passed_front h.config x begun g.passes.passed)))
        (λ first. absurd (later first))

    goes_by : (d ≡ 0 → Walk complete r) → PassedBy complete d r s
    goes_by walk = ⊎_elim
        (λ (e : IsEven x.own.arrivals × (begun.seen.stage ≡ In g.kind) × Comes x.own.number g.last g.kind × IsModeOf g.kind (state_of h.config begun.seen.front).mode × LeavesEven h.config g.kind begun y). even e.0 e.1 e.2 e.4 walk)
        (λ (o : IsOdd x.own.arrivals × (begun.seen.stage ≡ Leading g.last) × LeavesOdd h.config (Caller complete) begun y g.last g.kind). ⊎_elim
        (λ (l : (begun.own.number ≡ 0) × LeadsOn h.config (Caller complete) begun y g.last g.kind). leads_on o.0 l.0 l.1 walk)
        (λ (f : (begun.own.number ≢ 0) × (g.kind ≡ g.last) × (y ≡ arrived_view begun)). follows o.0 f.0 f.2)
        o.2)
        g.passes.share

  -- the collection is answered: the look at the barrier, and what domain 0 had named
  module _ (last : Kind) (arrived : r.left ≡ Some last) (begun : DomainView) (comes : ComesToAnswer h.config x begun) (left_is : s.left ≡ Some Answer) (number : y.own.number ≡ x.own.number) (kept : y.seen.share.progress ≡ x.seen.share.progress) where
    named : d ≡ 0 → r.left ≡ Some Answer
    named first = arrived ∙ ap Some (sym (stands_gone r.left last x.seen.stage arrived is.between.stands) ∙ sym (comes.named.0 first))

    answer_leads : d ≡ 0 → LeadStep (lead_of complete r) (lead_of complete s) []
    answer_leads first = lead_as (lead_of complete r) Answers (lead_of complete s) Answers [] (ap (lead_in complete x.own.arrivals) (named first)) (ap (lead_in complete y.own.arrivals) left_is) refl

    answer_walk : (d ≡ 0 → Walk complete r) → d ≡ 0 → Walk complete s
    answer_walk walk first = walk_same (walk first) (same_progress number (knows_on x y r.progress number kept is.between.knows) first) (λ kind at. named first ∙ (sym left_is ∙ at))

  -- by its own reply
  answered : RunIsAnswered h r s → (d ≡ 0 → Walk complete r) → PassedBy complete d r s
  answered a walk =
      let b : DomainView = a.answers.begun in
      let left_is : s.left ≡ Some Answer = ap (λ (z : RunView). z.left) a.run in
      let view = a.answers.view in
      let number : y.own.number ≡ x.own.number = ap (λ (v : DomainView). v.own.number) view ∙ passed_number h.config x b a.answers.comes.passed in
      let kept : y.seen.share.progress ≡ x.seen.share.progress = ap (λ (v : DomainView). v.seen.share.progress) view ∙ ap (λ (v : DomainView). v.seen.share.progress) a.answers.comes.passed.view in
      let e : Entry = CommandOf d FullMajor false in
      let mid : List Entry = b.seen.front ++ a.answers.answers.between in
      let ends : a.answers.front ≡ mid ++ e ∷ [] = a.answers.answers.appends in
      let f : IsFrontOf d mid b.seen.front = record { rest = a.answers.answers.between; appends = refl; others = a.answers.answers.others } in
      let grew : Grown d mid b.seen.front = (f, led_before d mid b.seen.front e f (subst (λ (l : List Entry). IsLed d l b.seen.front) ends a.answers.led)) in record {
        control = [];
        leads = answer_leads a.last a.arrived b a.answers.comes left_is number kept;
        silent = λ _. refl;
        own = e ∷ [];
        tells = inl record {
          others = drop (r.next + 1) r.commands;
          next = drop_next r.commands r.next FullMajor a.waited.next;
          asked = ap (λ (cs : List model.Command). asked_for cs r.asked) (drop_next r.commands r.next FullMajor a.waited.next) ∙ a.waited.wished;
          made = refl;
          run = ap one_run a.run ∙ λ i. record { commands = r.commands; left = drop (r.next + 1) r.commands; replies = sym (ap (λ (z : RunView). z.replies) a.run) i; asked = unasked (drop (r.next + 1) r.commands) i; paused = unpaused (drop (r.next + 1) r.commands) y.own.arrivals i; waiting = length y.own.finalisers.queue.items; runs = is_running (sym a.arrived i); ended = r.ended };
        };
        steps = steps_one d y.seen.front mid x.seen.front e (grown_twice d mid b.seen.front x.seen.front grew (passed_front h.config x b a.answers.comes.passed)) (ap (λ (v : DomainView). v.seen.front) view ∙ ends);
        walk = answer_walk a.last a.arrived b a.answers.comes left_is number kept walk;
      }

  -- by none of its own
  sees : SeesAnswer h r s → (d ≡ 0 → Walk complete r) → PassedBy complete d r s
  sees a walk =
      let b : DomainView = a.gives.begun in
      let left_is : s.left ≡ Some Answer = ap (λ (z : RunView). z.left) a.run in
      let arrivals : y.own.arrivals ≡ x.own.arrivals + 1 = ap (λ (v : DomainView). v.own.arrivals) a.gives.view ∙ ap (λ (v : DomainView). v.own.arrivals + 1) a.gives.comes.passed.view in
      let number : y.own.number ≡ x.own.number = ap (λ (v : DomainView). v.own.number) a.gives.view ∙ passed_number h.config x b a.gives.comes.passed in
      let kept : y.seen.share.progress ≡ x.seen.share.progress = ap (λ (v : DomainView). v.seen.share.progress) a.gives.view ∙ ap (λ (v : DomainView). v.seen.share.progress) a.gives.comes.passed.view in
      let behind : Grown d y.seen.front b.seen.front = subst (λ (n : ℕ). Grown n y.seen.front b.seen.front) (passed_number h.config x b a.gives.comes.passed) (a.gives.seen, a.gives.led) in record {
        control = [];
        leads = answer_leads a.last a.arrived b a.gives.comes left_is number kept;
        silent = λ _. refl;
        own = [];
        tells = inr record { made = refl; run = ap one_run a.run ∙ λ i. record (one_run r) { paused = paused_more arrivals i; runs = is_running (sym left_is i); waiting = length y.own.finalisers.queue.items } };
        steps = steps_none d y.seen.front x.seen.front (grown_twice d y.seen.front b.seen.front x.seen.front behind (passed_front h.config x b a.gives.comes.passed));
        walk = answer_walk a.last a.arrived b a.gives.comes left_is number kept walk;
      }

  -- the domains run again
  resumes : Resumes h r s → (d ≡ 0 → Walk complete r) → PassedBy complete d r s
  resumes a walk =
      let left_is : s.left ≡ None = ap (λ (z : RunView). z.left) a.run in
      let number : y.own.number ≡ x.own.number = passed_number h.config x y a.passed in
      let same : y.own.arrivals ≡ x.own.arrivals = ap (λ (v : DomainView). v.own.arrivals) a.passed.view in
      let stays : x.own.arrivals ≤ y.own.arrivals = omega (arith, same) in
      let kept : y.seen.share.progress ≡ x.seen.share.progress = ap (λ (v : DomainView). v.seen.share.progress) a.passed.view in record {
        control = [];
        leads = λ first. lead_as (lead_of complete r) Rests (lead_of complete s) Rests [] (ap (lead_in complete x.own.arrivals) a.arrived.1 ∙ (lead_even complete x.own.arrivals a.arrived.0 a.even ∙ ap (lead_named complete) (sym (a.arrived.2.0 first)))) (ap (lead_in complete y.own.arrivals) left_is) refl;
        silent = λ _. refl;
        own = [];
        tells = inr record { made = refl; run = ap one_run a.run ∙ λ i. record (one_run r) { paused = paused_same stays i; runs = is_running (sym left_is i); waiting = length y.own.finalisers.queue.items } };
        steps = steps_none d y.seen.front x.seen.front (passed_front h.config x y a.passed);
        walk = λ first. walk_same (walk first) (same_progress number (knows_on x y r.progress number kept is.between.knows) first) (λ kind at. absurd (let none : ◌≡◌ {A = Option Kind} None (Some kind) = sym left_is ∙ at in cc));
      }

  -- whatever the step came to
  pub passed : (a : Turned) → (d ≡ 0 → Walk complete r) → PassesOn h (Caller complete) r s a → PassedBy complete d r s
  passed Did walk p = ⊎_elim (λ g. goes_by g walk) (λ more. ⊎_elim (λ a. answered a walk) (λ rest. ⊎_elim (λ a. sees a walk) (λ a. resumes a walk) rest) more) p
  passed (Waiting b) walk p = waits b p walk
  passed Hungry walk p = absurd p
  passed (Held section) walk p = absurd p
  passed (Idle n) walk p = absurd p
  passed Ended walk p = absurd p
