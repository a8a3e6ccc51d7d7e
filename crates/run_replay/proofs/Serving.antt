-- The runs in a pause: which kinds of phases they know, and that each `full_major` that waits is answered.
use Rattle.std.proofs.Common.{true≢false, ◌≡◌, ◌≢◌, ◌∙◌, inl, inr, ◌+◌, ◌*◌, ⊎_elim, ℕ, Bool, true, false, List, Option, Some, None, arith, refl, sym, ap, subst}
use mathlib.Core.Logic.{dite}
use native.Mathlib.Decide.{ℕ_discrete}
use Rattle.model_core.specs.declared.entry.Entry.{Entry}
use Rattle.heap_rule.specs.declared.phase.Kind.{Kind}
use Rattle.heap_rule.specs.declared.phase.Kind.TheVariants.{Run, Promote, Reset, Roots, Mark, Rounds, Decide, Queued, Clean, Lasts, Sweep, Answer}
use Rattle.heap_rule.specs.declared.phase.Progress.{Progress}
use Rattle.heap_rule.specs.declared.phase.Stage.TheVariants.{In, Gone}
use Rattle.heap_rule.specs.declared.view.DomainView.{DomainView}
use Rattle.heap_rule.specs.Phases.{AtStage, IsEven, IsOdd, LeftOdd, Pause, Staged}
use Rattle.heap_rule.specs.Token.{SharedHeap}
use Rattle.step_pauses.specs.Pauses.{entry_of}
use Rattle.gc_pause.specs.declared.phases.decider.Decider.TheVariants.{Caller}
use Rattle.gc_pause.specs.Phases.Leading.{next_kind}
use Rattle.gc_pause.specs.Laws.Ties.{InPause, Started, Tied}
use Rattle.gc_pause.proofs.OfLaws.Ties.{none_some, same_even, same_run, tied_arrives, tied_ends, tied_leads, tied_odd, tied_passes, tied_runs}
use Rattle.run_turns.specs.declared.turned.Turned.TheVariants.{Did}
use Rattle.run_turns.specs.Meeting.{StandsBehind}
use Rattle.run_turns.specs.Pausing.{LeavesEven}
use Rattle.run_turns.specs.Runs.{GoesBy, IsAnswered, IsRun, PassesOn, Resumes, RunView, SeesAnswer, StandsAt}
use Rattle.run_turns.proofs.LeavingLemmas.{passes_leaves}
use Rattle.text_script.specs.Schedule.Drive.Together.{IsServed, LeadStep}
use Rattle.run_replay.specs.Gathered.{HasRun, InStep, Walk, one_run}
use Rattle.run_replay.specs.Leveled.{Leveled}
use Rattle.run_replay.specs.Moves.{PassesAt, forgetting, halted_run}
use Rattle.run_replay.specs.Served.{AllTied, IsBehindAnswer, Serves}
use Rattle.run_replay.specs.Walk.{IsOfCollection, controls_of, lead_left, lead_named}
use Rattle.run_replay.proofs.InStep.{at_stage, becomes_stood, met_in_step, near, not_even, stands}
use Rattle.run_replay.proofs.Served.{goes_serves, none_serves, resumes_serves, resumes_served, sees_serves}
use Rattle.run_replay.proofs.Walk.{Goes, walk_goes}

-- where all run nothing is known of a phase
pub running_tied : (complete : Bool) (runs : List (Option RunView)) → ((d : ℕ) (r : RunView) → HasRun runs d r → r.left ≡ None) → AllTied complete runs
running_tied complete runs run full d r first away there zeroth j kind left knows names = absurd (none_some kind (sym (run d r there) ∙ left))

-- as all meet
pub met_tied : (complete : Bool) (old new : List (Option RunView)) → Leveled old new → AllTied complete old → AllTied complete new
met_tied complete old new l tied full d r first away there zeroth =
    let p = l.more d r there in
    let q = l.more 0 first zeroth in
    subst (λ (w : RunView × RunView). Tied w.0.token.view.own.arrivals w.0.left w.1.token.view.own.arrivals w.1.left) (λ i. (sym q.2.is i, sym p.2.is i)) (tied full d p.0 q.0 away p.1 q.1)

-- as all arrive
pub halted_tied : (complete : Bool) (mid new : List (Option RunView)) → ((d : ℕ) (r : RunView) → HasRun mid d r → IsEven r.token.view.own.arrivals) → ((d : ℕ) (s : RunView) → HasRun new d s → (r : RunView) × HasRun mid d r × (s ≡ halted_run r)) → AllTied complete new
halted_tied complete mid new even from full d r first away there zeroth =
    let f = from 0 first zeroth in
    let e = even 0 f.0 f.1 in
    let j : ℕ = e.0 in
    let was : f.0.token.view.own.arrivals ≡ j * 2 = e.1 in
    let now : first.token.view.own.arrivals ≡ f.0.token.view.own.arrivals + 1 = ap (λ (x : RunView). x.token.view.own.arrivals) f.2 in
    tied_odd first.token.view.own.arrivals r.token.view.own.arrivals first.left r.left (j, omega (arith, was, now))

-- a complete pause ends behind the answer alone
run_ends : (last : Kind) (control : List Entry) → LeadStep (lead_left true last) (lead_named true Run) control → last ≡ Answer
run_ends Answer control step = refl
run_ends Run control step = absurd step
run_ends Promote control step = absurd step
run_ends Reset control step = absurd step
run_ends Roots control step = absurd step
run_ends Mark control step = absurd step
run_ends Rounds control step = absurd step
run_ends Decide control step = absurd step
run_ends Queued control step = absurd step
run_ends Clean control step = absurd step
run_ends Lasts control step = absurd step
run_ends Sweep control step = absurd step

-- where one of those that have met stands
module _ (old mid : List (Option RunView)) (l : Leveled old mid) (are : (d : ℕ) (r : RunView) → HasRun mid d r → IsRun r) (numbers : (d : ℕ) (r : RunView) → HasRun mid d r → r.token.view.own.number ≡ d) where
  in_pause : (d : ℕ) (r : RunView) → HasRun mid d r → InPause l.pause d r.token.view.own.arrivals r.left
  in_pause d r there = record {
    stage = r.token.view.seen.stage;
    stands = stands old mid l are d r there;
    at = subst (λ (n : ℕ). AtStage l.pause n r.token.view.own.arrivals r.token.view.seen.stage) (numbers d r there) (at_stage old mid l are d r there);
    low = (near old mid l are d r there).0;
    high = (near old mid l are d r there).1;
  }

  -- one of them made a step
  module _ (h : SharedHeap) (complete : Bool) (new : List (Option RunView)) (at : ℕ) (step : InStep old) (walk : (r : RunView) → HasRun mid 0 r → Walk complete r) (first : (r : RunView) × HasRun mid 0 r)
      (serves : (d : ℕ) (r : RunView) → HasRun mid d r → Serves complete d r) (tied : AllTied complete mid) (p : PassesAt h complete l.pause mid new at) where
    abbrev t : Pause
    t = l.pause

    abbrev r : RunView
    r = p.run

    abbrev s : RunView
    s = p.passed

    abbrev x : DomainView
    x = r.token.view

    abbrev y : DomainView
    y = s.token.view

    number : x.own.number ≡ at
    number = numbers at r p.becomes.was

    here : InPause t at x.own.arrivals r.left
    here = in_pause at r p.becomes.was

    -- in a pause without a complete collection no phase of one comes
    quiet : (v : DomainView) (kind : Kind) → Staged t v → v.seen.stage ≡ In kind → complete ≡ false → IsOfCollection kind ≡ false
    quiet v kind st stage none = by (IsOfCollection kind) refl where
      acts : AtStage t v.own.number v.own.arrivals (In kind)
      acts = subst (AtStage t v.own.number v.own.arrivals) stage st.stage

      known : (o : Option Kind) → first.0.left ≡ o → IsOfCollection kind ≡ true → complete ≡ true
      known None left of =
          let run : kind ≡ Run = same_run t v.own.number first.0.token.view.own.arrivals v.own.arrivals kind (subst (InPause t 0 first.0.token.view.own.arrivals) left (in_pause 0 first.0 first.1)) acts in
          absurd (true≢false (sym of ∙ ap IsOfCollection run))
      known (Some k) left of =
          let same : kind ≡ k = same_even t v.own.number first.0.token.view.own.arrivals v.own.arrivals k kind (subst (InPause t 0 first.0.token.view.own.arrivals) left (in_pause 0 first.0 first.1)) acts in
          ((walk first.0 first.1).on k left).asked (sym (ap IsOfCollection same) ∙ of)

      by : (b : Bool) → IsOfCollection kind ≡ b → IsOfCollection kind ≡ false
      by true of = absurd (true≢false (sym (known first.0.left refl of) ∙ none))
      by false of = of

    -- domain 0 names that the domains run behind the answer alone
    ends : (g : GoesBy h (Caller complete) r s) → complete ≡ true → at ≡ 0 → g.kind ≡ Run → g.last ≡ Answer
    ends g full zeroth run = ⊎_elim
        (λ e. let none : ⊥ = subst (λ (k : Kind). LeavesEven h.config k g.passes.begun y) run e.4 in absurd none)
        (λ o. ⊎_elim
        (λ leads.
        let leader : x.own.number ≡ 0 = number ∙ zeroth in
        let w = walk r (subst (λ (n : ℕ). HasRun mid n r) zeroth p.becomes.was) in
        let before : g.passes.begun.seen.share.progress ≡ r.progress = ap (λ (v : DomainView). v.seen.share.progress) g.passes.passed.view ∙ sym ((are at r p.becomes.was).between.knows leader) in
        let chosen : g.kind ≡ next_kind h.config (Caller complete) g.last r.progress leads.1.findings = leads.1.chosen ∙ ap (λ (q : Progress). next_kind h.config (Caller complete) g.last q leads.1.findings) before in
        let goes : Goes complete g.last Run r.progress = subst (λ (n : Kind). Goes complete g.last n r.progress) (sym chosen ∙ run) (walk_goes h.config leads.1.findings complete g.last r.progress (w.on g.last g.arrived)) in
        run_ends g.last (controls_of (entry_of r.progress.unswept g.last Run)) (subst (λ (b : Bool). LeadStep (lead_left b g.last) (lead_named b Run) (controls_of (entry_of r.progress.unswept g.last Run))) full goes.step))
        (λ f. absurd (f.0 (ap (λ (v : DomainView). v.own.number) g.passes.passed.view ∙ (number ∙ zeroth))))
        o.2)
        g.passes.share

    goes_quiet : (g : GoesBy h (Caller complete) r s) → Staged t g.passes.begun → complete ≡ false → IsEven x.own.arrivals → IsOfCollection g.kind ≡ false
    goes_quiet g st none even = ⊎_elim (λ e. quiet g.passes.begun g.kind st e.1 none) (λ o. absurd (not_even x.own.arrivals o.0 even)) g.passes.share

    -- so who runs again went through it
    behind : (a : Resumes h r s) → Staged t y → complete ≡ true → IsBehindAnswer at x.own.arrivals r.left
    behind a st full =
        let last : Kind = a.arrived.0 in
        let left : r.left ≡ Some last = a.arrived.1 in
        dite (ℕ_discrete at 0)
        (λ (zeroth : at ≡ 0). inr (zeroth, inr (left ∙ ap Some (sym (a.arrived.2.0 (number ∙ zeroth))), a.even)))
        (λ (away : at ≢ 0).
        let gone : AtStage t at x.own.arrivals (Gone last) = subst (AtStage t at x.own.arrivals) (subst (λ (o : Option Kind). StandsAt o x.seen.stage) left (stands old mid l are at r p.becomes.was)) (subst (λ (n : ℕ). AtStage t n x.own.arrivals x.seen.stage) number (at_stage old mid l are at r p.becomes.was)) in
        let odd : LeftOdd t.kinds at x.own.arrivals last = gone.1 a.even in
        let j : ℕ = odd.0 in
        let many : x.own.arrivals ≡ j * 2 + 2 = odd.1 in
        let same : y.own.arrivals ≡ x.own.arrivals = ap (λ (v : DomainView). v.own.arrivals) a.passed.view in
        let runs : InPause t at x.own.arrivals None = record {
          stage = y.seen.stage;
          stands = a.runs;
          at = subst (λ (w : ℕ × ℕ). AtStage t w.0 w.1 y.seen.stage) (λ i. ((p.number ∙ number) i, same i)) st.stage;
          low = here.low;
          high = here.high;
        } in
        let started : Started first.0.token.view.own.arrivals first.0.left x.own.arrivals = λ run o. (met_in_step old mid l step).started 0 at first.0 r first.1 p.becomes.was run o in
        let tie : Tied first.0.token.view.own.arrivals first.0.left x.own.arrivals (Some last) = subst (Tied first.0.token.view.own.arrivals first.0.left x.own.arrivals) left (tied full at r first.0 away p.becomes.was first.1) in
        inl (away, left ∙ ap Some (tied_ends t at first.0.token.view.own.arrivals x.own.arrivals first.0.left last (in_pause 0 first.0 first.1) runs away j many started tie)))

    -- behind the step it waits as it may, and runs again only where it waits for nothing
    went : (q : PassesOn h (Caller complete) r s Did) → StandsBehind h (Caller complete) t r s q → Serves complete at s × (complete ≡ true → s.left ≡ None → IsServed (one_run s))
    went (inl g) st = (
      goes_serves h complete at r s number (serves at r p.becomes.was) g (goes_quiet g st) (ends g),
      λ full back. absurd (none_some g.kind (sym back ∙ ap (λ (u : RunView). u.left) g.run)),
    )
    went (inr (inl a)) st = (none_serves complete at s (ap (λ (u : RunView). u.asked) a.run), λ full back. absurd (none_some Answer (sym back ∙ ap (λ (u : RunView). u.left) a.run)))
    went (inr (inr (inl a))) st = (by complete refl, λ full back. absurd (none_some Answer (sym back ∙ ap (λ (u : RunView). u.left) a.run))) where
      by : (b : Bool) → complete ≡ b → Serves complete at s
      by true full = sees_serves h complete at r s number (serves at r p.becomes.was) full a
      by false none = absurd (true≢false (quiet a.gives.begun Answer st a.gives.comes.stage none))
    went (inr (inr (inr a))) st = (
      resumes_serves h complete at r s number (serves at r p.becomes.was) a (behind a st),
      λ full back. resumes_served h complete at r s number (serves at r p.becomes.was) a (behind a st) full,
    )

    pub passed_serves : Serves complete at (forgetting s)
    passed_serves =
        let v = (went p.passes p.stands).0 in record {
          paid = λ w. v.paid (record { next = w.next; wished = w.wished });
          unqueued = λ how w. v.unqueued how (record { next = w.next; wished = w.wished });
          answered = λ full back w. v.answered full back (record { next = w.next; wished = w.wished });
        }

    pub passed_served : complete ≡ true → s.left ≡ None → IsServed (one_run s)
    passed_served = (went p.passes p.stands).1

    more_goes : (g : GoesBy h (Caller complete) r s) → y.own.arrivals ≡ x.own.arrivals + 1
    more_goes g = (passes_leaves (Caller complete) h.config x y g.last g.kind g.passes).arrivals

    more_answered : (a : IsAnswered h r s) → y.own.arrivals ≡ x.own.arrivals + 1
    more_answered a = ap (λ (v : DomainView). v.own.arrivals) a.answers.view ∙ ap (λ (v : DomainView). v.own.arrivals + 1) a.answers.comes.passed.view

    more_sees : (a : SeesAnswer h r s) → y.own.arrivals ≡ x.own.arrivals + 1
    more_sees a = ap (λ (v : DomainView). v.own.arrivals) a.gives.view ∙ ap (λ (v : DomainView). v.own.arrivals + 1) a.gives.comes.passed.view

    odd_after : y.own.arrivals ≡ x.own.arrivals + 1 → IsEven x.own.arrivals → IsOdd y.own.arrivals
    odd_after more e = let j : ℕ = e.0 in let was : x.own.arrivals ≡ j * 2 = e.1 in (j, omega (arith, was, more))

    -- another domain made the step
    other_tied : (zeroth : RunView) → HasRun mid 0 zeroth → at ≢ 0 → complete ≡ true → PassesOn h (Caller complete) r s Did → Tied zeroth.token.view.own.arrivals zeroth.left y.own.arrivals s.left
    other_tied zeroth there away full = go where
      tie : Tied zeroth.token.view.own.arrivals zeroth.left x.own.arrivals r.left
      tie = tied full at r zeroth away p.becomes.was there

      even_tied : IsEven x.own.arrivals → y.own.arrivals ≡ x.own.arrivals + 1 → Tied zeroth.token.view.own.arrivals zeroth.left y.own.arrivals s.left
      even_tied e more = subst (λ (n : ℕ). Tied zeroth.token.view.own.arrivals zeroth.left n s.left) (sym more) (tied_passes t at zeroth.token.view.own.arrivals x.own.arrivals e.0 zeroth.left r.left s.left (in_pause 0 zeroth there) here e.1)

      go : PassesOn h (Caller complete) r s Did → Tied zeroth.token.view.own.arrivals zeroth.left y.own.arrivals s.left
      go (inl g) = ⊎_elim
          (λ e. even_tied e.0 (more_goes g))
          (λ o. ⊎_elim
          (λ leads. absurd (away (sym number ∙ (sym (ap (λ (v : DomainView). v.own.number) g.passes.passed.view) ∙ leads.0))))
          (λ f.
          let left : r.left ≡ s.left = g.arrived ∙ (ap Some (sym f.1) ∙ sym (ap (λ (u : RunView). u.left) g.run)) in
          subst (λ (w : ℕ × Option Kind). Tied zeroth.token.view.own.arrivals zeroth.left w.0 w.1) (λ i. (sym (more_goes g) i, left i)) (tied_arrives zeroth.token.view.own.arrivals x.own.arrivals o.0.0 zeroth.left r.left o.0.1 tie))
          o.2)
          g.passes.share
      go (inr (inl a)) = even_tied a.answers.comes.even (more_answered a)
      go (inr (inr (inl a))) = even_tied a.gives.comes.even (more_sees a)
      go (inr (inr (inr a))) = λ j kind left knows names. absurd (none_some kind (sym (ap (λ (u : RunView). u.left) a.run) ∙ left))

    -- or domain 0 did
    first_tied : (d : ℕ) (q : RunView) → HasRun mid d q → d ≢ 0 → at ≡ 0 → complete ≡ true → PassesOn h (Caller complete) r s Did → Tied y.own.arrivals s.left q.token.view.own.arrivals q.left
    first_tied d q there away zeroth full = go where
      mine : HasRun mid 0 r
      mine = subst (λ (n : ℕ). HasRun mid n r) zeroth p.becomes.was

      go : PassesOn h (Caller complete) r s Did → Tied y.own.arrivals s.left q.token.view.own.arrivals q.left
      go (inl g) = ⊎_elim
          (λ e. tied_odd y.own.arrivals q.token.view.own.arrivals s.left q.left (odd_after (more_goes g) e.0))
          (λ o. ⊎_elim
          (λ leads. subst (λ (w : ℕ × Option Kind). Tied w.0 w.1 q.token.view.own.arrivals q.left) (λ i. (sym (more_goes g) i, sym (ap (λ (u : RunView). u.left) g.run) i))
          (tied_leads t d x.own.arrivals q.token.view.own.arrivals o.0.0 g.last g.kind q.left (subst (InPause t 0 x.own.arrivals) g.arrived (in_pause 0 r mine)) (in_pause d q there) away o.0.1 (ends g full zeroth)))
          (λ f. absurd (f.0 (ap (λ (v : DomainView). v.own.number) g.passes.passed.view ∙ (number ∙ zeroth))))
          o.2)
          g.passes.share
      go (inr (inl a)) = tied_odd y.own.arrivals q.token.view.own.arrivals s.left q.left (odd_after (more_answered a) a.answers.comes.even)
      go (inr (inr (inl a))) = tied_odd y.own.arrivals q.token.view.own.arrivals s.left q.left (odd_after (more_sees a) a.gives.comes.even)
      go (inr (inr (inr a))) =
          let run : r.left ≡ Some Run = a.arrived.1 ∙ ap Some (sym (a.arrived.2.0 (number ∙ zeroth))) in
          let same : y.own.arrivals ≡ x.own.arrivals = ap (λ (v : DomainView). v.own.arrivals) a.passed.view in
          subst (λ (w : ℕ × Option Kind). Tied w.0 w.1 q.token.view.own.arrivals q.left) (λ i. (sym same i, sym (ap (λ (u : RunView). u.left) a.run) i))
          (tied_runs x.own.arrivals q.token.view.own.arrivals q.left (subst (λ (o : Option Kind). Tied x.own.arrivals o q.token.view.own.arrivals q.left) run (tied full d q r away there mine)))

    -- what the domains know of the kinds stays tied
    pub passed_tied : AllTied complete new
    passed_tied full d q zeroth away at_q at_0 = ⊎_elim
        (λ (mine : (d ≡ at) × (q ≡ forgetting s)). ⊎_elim
        (λ (too : (0 ≡ at) × (zeroth ≡ forgetting s)). absurd (away (mine.0 ∙ sym too.0)))
        (λ (other : (0 ≢ at) × HasRun mid 0 zeroth).
        subst (λ (u : RunView). Tied zeroth.token.view.own.arrivals zeroth.left u.token.view.own.arrivals u.left) (sym mine.1) (other_tied zeroth other.1 (λ e. other.0 (sym e)) full p.passes))
        (becomes_stood h mid new at r (forgetting s) p.becomes 0 zeroth at_0))
        (λ (else_ : (d ≢ at) × HasRun mid d q). ⊎_elim
        (λ (mine : (0 ≡ at) × (zeroth ≡ forgetting s)).
        subst (λ (u : RunView). Tied u.token.view.own.arrivals u.left q.token.view.own.arrivals q.left) (sym mine.1) (first_tied d q else_.1 away (sym mine.0) full p.passes))
        (λ (other : (0 ≢ at) × HasRun mid 0 zeroth). tied full d q zeroth away else_.1 other.1)
        (becomes_stood h mid new at r (forgetting s) p.becomes 0 zeroth at_0))
        (becomes_stood h mid new at r (forgetting s) p.becomes d q at_q)
