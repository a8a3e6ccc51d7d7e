-- No domain that has arrived has done so more often than one that runs again.
use Rattle.std.proofs.Common.{◌≡◌, ◌≢◌, ◌∙◌, ◌⊎◌, ◌<◌, ◌≤◌, ◌+◌, ◌*◌, inl, inr, ⊎_elim, ℕ, Bool, List, Option, Some, None, arith, refl, sym, ap, subst}
use Rattle.std.specs.Prelude.{slice_get, slice_set}
use Rattle.std.proofs.lemmas.Bool.{cases_lt}
use mathlib.Core.Logic.{dite}
use native.Mathlib.Decide.{ℕ_discrete}
use Rattle.heap_rule.specs.declared.phase.Kind.{Kind}
use Rattle.heap_rule.specs.declared.phase.Kind.TheVariants.{Run, Answer}
use Rattle.heap_rule.specs.declared.phase.Stage.TheVariants.{In, Gone, Leads}
use Rattle.heap_rule.specs.declared.view.DomainView.{DomainView}
use Rattle.heap_rule.specs.Phases.{AtStage, Comes, IsEven, IsOdd, Pause, Staged}
use Rattle.heap_rule.specs.Rule.{state_of}
use Rattle.heap_rule.specs.Token.{SharedHeap}
use Rattle.step_pauses.specs.Pauses.{IsModeOf}
use Rattle.gc_pause.specs.declared.phases.decider.Decider.TheVariants.{Caller}
use Rattle.gc_pause.proofs.OfLaws.Ties.{none_some, some_is}
use Rattle.run_turns.specs.Meeting.{StandsBehind}
use Rattle.run_turns.specs.Pausing.{LeavesEven, LeavesOdd}
use Rattle.run_turns.specs.declared.turned.Turned.TheVariants.{Did}
use Rattle.run_turns.specs.Runs.{GoesBy, IsRun, PassesOn, Resumes, RunView, SeesAnswer, StandsAt, run_seeing}
use Rattle.run_turns.specs.Runs.{IsAnswered as RunIsAnswered}
use Rattle.run_turns.proofs.LeavingLemmas.{passes_leaves}
use Rattle.run_turns.proofs.PauseLemmas.{odd_next}
use Rattle.run_replay.specs.Gathered.{HasRun, InStep}
use Rattle.run_replay.specs.Leveled.{Leveled}
use Rattle.run_replay.specs.Moves.{Becomes, IsSooner, PassesAt, forgetting, halted_run}
use Rattle.run_replay.proofs.Places.{set_else, set_here}
use Rattle.run_replay.proofs.SlotLemmas.{inside, one_there}

-- no number is both
pub not_even : (n : ℕ) → IsOdd n → IsEven n → ⊥
not_even n o e = let i : ℕ = o.0 in let j : ℕ = e.0 in let a : n ≡ i * 2 + 1 = o.1 in let b : n ≡ j * 2 = e.1 in omega (arith, a, b)

run_answer : Run ≡ Answer → ⊥
run_answer e = cc

-- where all run
pub running_in_step : (runs : List (Option RunView)) → ((d : ℕ) (r : RunView) → HasRun runs d r → r.left ≡ None) → InStep runs
running_in_step runs run = record {
  behind = λ d e r s at there back gone. absurd (gone (run e s there));
  started = λ d e r s at there left odd. absurd (none_some Run (sym (run d r at) ∙ left));
}

-- a run that stands at a place once another has been put there is that one, or one that stood elsewhere
stood : (old new : List (Option RunView)) (at : ℕ) (s : RunView) → new ≡ slice_set old at (Some s) → HasRun new at s → (d : ℕ) (q : RunView) → HasRun new d q → ((d ≡ at) × (q ≡ s)) ⊎ ((d ≢ at) × HasRun old d q)
stood old new at s is here d q there = dite (ℕ_discrete d at)
    (λ e. inl (e, one_there new at q s (subst (λ (n : ℕ). HasRun new n q) e there) here))
    (λ no. inr (no, sym (set_else old at d (Some s) no) ∙ (ap (λ (rs : List (Option RunView)). slice_get rs d) (sym is) ∙ there)))

pub becomes_stood : (h : SharedHeap) (old new : List (Option RunView)) (at : ℕ) (r s : RunView) → Becomes h old new at r s → (d : ℕ) (q : RunView) → HasRun new d q → ((d ≡ at) × (q ≡ s)) ⊎ ((d ≢ at) × HasRun old d q)
becomes_stood h old new at r s b = stood old new at s b.runs (ap (λ (rs : List (Option RunView)). slice_get rs at) b.runs ∙ set_here old at (Some s) (inside old at (Some r) b.was))

-- a domain made a step, while all run
pub made_in_step : (h : SharedHeap) (old new : List (Option RunView)) (at : ℕ) (r s : RunView) → Becomes h old new at r s → ((d : ℕ) (q : RunView) → HasRun old d q → q.left ≡ None) → s.left ≡ None → InStep new
made_in_step h old new at r s b run back = running_in_step new
    (λ d q there. ⊎_elim
    (λ (mine : (d ≡ at) × (q ≡ s)). ap (λ (x : RunView). x.left) mine.1 ∙ back)
    (λ (other : (d ≢ at) × HasRun old d q). run d q other.1)
    (becomes_stood h old new at r s b d q there))

-- all have met
pub met_in_step : (old new : List (Option RunView)) → Leveled old new → InStep old → InStep new
met_in_step old new l step = record {
  behind = λ d e r s at there back gone.
      let p = l.more d r at in
      let q = l.more e s there in
      subst (λ (w : ℕ × ℕ). w.0 ≤ w.1) (λ i. (ap (λ (x : RunView). x.token.view.own.arrivals) (sym q.2.is) i, ap (λ (x : RunView). x.token.view.own.arrivals) (sym p.2.is) i))
      (step.behind d e p.0 q.0 p.1 q.1 (sym (ap (λ (x : RunView). x.left) p.2.is) ∙ back) (λ none. gone (ap (λ (x : RunView). x.left) q.2.is ∙ none)));
  started = λ d e r s at there left odd.
      let p = l.more d r at in
      let q = l.more e s there in
      subst (λ (w : ℕ × ℕ). w.0 ≤ w.1) (λ i. (ap (λ (x : RunView). x.token.view.own.arrivals) (sym p.2.is) i, ap (λ (x : RunView). x.token.view.own.arrivals) (sym q.2.is) i))
      (step.started d e p.0 q.0 p.1 q.1 (sym (ap (λ (x : RunView). x.left) p.2.is) ∙ left) (subst IsOdd (ap (λ (x : RunView). x.token.view.own.arrivals) p.2.is) odd));
}

pub met_least : (old new : List (Option RunView)) → Leveled old new → (at d : ℕ) → IsSooner old at d → IsSooner new at d
met_least old new l at d least r s here there =
    let p = l.more at r here in
    let q = l.more d s there in
    subst (λ (w : ℕ × ℕ). w.0 ≤ w.1) (λ i. (ap (λ (x : RunView). x.token.view.own.arrivals) (sym p.2.is) i, ap (λ (x : RunView). x.token.view.own.arrivals) (sym q.2.is) i)) (least p.0 q.0 p.1 q.1)

pub sooner_twice : (runs : List (Option RunView)) (a b d : ℕ) (q : RunView) → HasRun runs b q → IsSooner runs a b → IsSooner runs b d → IsSooner runs a d
sooner_twice runs a b d q there first second r s here far = let one = first r q here there in let two = second q s there far in omega (arith, one, two)

-- where one of those that have met stands
module _ (old new : List (Option RunView)) (l : Leveled old new) (are : (d : ℕ) (r : RunView) → HasRun new d r → IsRun r) (d : ℕ) (r : RunView) (there : HasRun new d r) where
  abbrev was : RunView
  was = (l.more d r there).0

  same : r ≡ run_seeing was l.history
  same = (l.more d r there).2.is

  abbrev arrivals : ℕ
  arrivals = r.token.view.own.arrivals

  same_arrivals : arrivals ≡ was.token.view.own.arrivals
  same_arrivals = ap (λ (x : RunView). x.token.view.own.arrivals) same

  pub near : (l.pause.phase ≤ arrivals) × (arrivals ≤ l.pause.phase + 1)
  near = subst (λ (n : ℕ). (l.pause.phase ≤ n) × (n ≤ l.pause.phase + 1)) (sym same_arrivals) (l.more d r there).2.part.near

  pub at_stage : AtStage l.pause r.token.view.own.number arrivals r.token.view.seen.stage
  at_stage = subst (λ (x : RunView). AtStage l.pause x.token.view.own.number x.token.view.own.arrivals x.token.view.seen.stage) (sym same) (l.more d r there).2.part.staged.stage

  pub stands : StandsAt r.left r.token.view.seen.stage
  stands = (are d r there).between.stands

  -- one that runs acts in a phase in which the domains run
  pub runs_here : r.left ≡ None → (arrivals ≡ l.pause.phase) × ((j : ℕ) × (l.pause.phase ≡ j * 2) × (l.pause.kinds j ≡ Run))
  runs_here back = subst (AtStage l.pause r.token.view.own.number arrivals) (subst (λ (o : Option Kind). StandsAt o r.token.view.seen.stage) back stands) at_stage

  -- one that has gone through an even phase knows its kind
  pub knows_kind : (kind : Kind) (j : ℕ) → r.left ≡ Some kind → arrivals ≡ j * 2 + 1 → l.pause.kinds j ≡ kind
  knows_kind kind j left odd =
      let gone : AtStage l.pause r.token.view.own.number arrivals (Gone kind) = subst (AtStage l.pause r.token.view.own.number arrivals) (subst (λ (o : Option Kind). StandsAt o r.token.view.seen.stage) left stands) at_stage in
      gone.0 j odd

-- a step of a domain in the pause
module _ (h : SharedHeap) (complete : Bool) (t : Pause) (r s : RunView) where
  abbrev x : DomainView
  x = r.token.view

  abbrev y : DomainView
  y = s.token.view

  -- the domain runs again, and hasn't arrived once more; or it has
  abbrev pub Went : Type 0
  Went = ((s.left ≡ None) × (y.own.arrivals ≡ x.own.arrivals)) ⊎ ((s.left ≢ None) × (y.own.arrivals ≡ x.own.arrivals + 1))

  some_left : (kind : Kind) → s.left ≡ Some kind → s.left ≢ None
  some_left kind is none = none_some kind (sym none ∙ is)

  pub went : PassesOn h (Caller complete) r s Did → Went
  went p = ⊎_elim
      (λ (g : GoesBy h (Caller complete) r s). inr (some_left g.kind (ap (λ (z : RunView). z.left) g.run), (passes_leaves (Caller complete) h.config x y g.last g.kind g.passes).arrivals))
      (λ more. ⊎_elim
      (λ (a : RunIsAnswered h r s). inr (some_left Answer (ap (λ (z : RunView). z.left) a.run), ap (λ (v : DomainView). v.own.arrivals) a.answers.view ∙ ap (λ (v : DomainView). v.own.arrivals + 1) a.answers.comes.passed.view))
      (λ rest. ⊎_elim
      (λ (a : SeesAnswer h r s). inr (some_left Answer (ap (λ (z : RunView). z.left) a.run), ap (λ (v : DomainView). v.own.arrivals) a.gives.view ∙ ap (λ (v : DomainView). v.own.arrivals + 1) a.gives.comes.passed.view))
      (λ (a : Resumes h r s). inl (ap (λ (z : RunView). z.left) a.run, ap (λ (v : DomainView). v.own.arrivals) a.passed.view))
      rest)
      more)
      p

  -- it goes through no even phase in which the domains run: it hasn't just been halted behind its step
  pub not_started : PassesOn h (Caller complete) r s Did → s.left ≡ Some Run → IsOdd y.own.arrivals → ⊥
  not_started p left odd = ⊎_elim
      (λ (g : GoesBy h (Caller complete) r s).
      let kind : g.kind ≡ Run = some_is g.kind Run (sym (ap (λ (z : RunView). z.left) g.run) ∙ left) in
      let after : y.own.arrivals ≡ x.own.arrivals + 1 = (passes_leaves (Caller complete) h.config x y g.last g.kind g.passes).arrivals in ⊎_elim
      (λ (e : IsEven x.own.arrivals × (g.passes.begun.seen.stage ≡ In g.kind) × Comes x.own.number g.last g.kind × IsModeOf g.kind (state_of h.config g.passes.begun.seen.front).mode × LeavesEven h.config g.kind g.passes.begun y).
      let none : ⊥ = subst (λ (k : Kind). LeavesEven h.config k g.passes.begun y) kind e.4 in none)
      (λ (o : IsOdd x.own.arrivals × (g.passes.begun.seen.stage ≡ Leads g.last) × LeavesOdd h.config (Caller complete) g.passes.begun y g.last g.kind).
      not_even y.own.arrivals odd (subst IsEven (sym after) (odd_next x.own.arrivals o.0)))
      g.passes.share)
      (λ more. ⊎_elim
      (λ (a : RunIsAnswered h r s). run_answer (some_is Run Answer (sym left ∙ ap (λ (z : RunView). z.left) a.run)))
      (λ rest. ⊎_elim
      (λ (a : SeesAnswer h r s). run_answer (some_is Run Answer (sym left ∙ ap (λ (z : RunView). z.left) a.run)))
      (λ (a : Resumes h r s). none_some Run (sym (ap (λ (z : RunView). z.left) a.run) ∙ left))
      rest)
      more)
      p

  -- where the phase is one in which the domains run
  module _ (j : ℕ) (even : t.phase ≡ j * 2) (run : t.kinds j ≡ Run) where
    kind_here : (v : DomainView) (kind : Kind) → Staged t v → v.seen.stage ≡ In kind → kind ≡ Run
    kind_here v kind st stage =
        let here : AtStage t v.own.number v.own.arrivals (In kind) = subst (AtStage t v.own.number v.own.arrivals) stage st.stage in
        let i : ℕ = here.1.0 in
        let at : t.phase ≡ i * 2 = here.1.1 in
        let same : i ≡ j = omega (arith, at, even) in
        sym here.1.2 ∙ (ap t.kinds same ∙ run)

    leads_never : (v : DomainView) (kind : Kind) → Staged t v → v.seen.stage ≡ Leads kind → ⊥
    leads_never v kind st stage =
        let here : AtStage t v.own.number v.own.arrivals (Leads kind) = subst (AtStage t v.own.number v.own.arrivals) stage st.stage in
        let i : ℕ = here.1.0 in
        let at : t.phase ≡ i * 2 + 1 = here.1.1 in
        omega (arith, at, even)

    -- the domain runs again
    pub comes_back : (p : PassesOn h (Caller complete) r s Did) → StandsBehind h (Caller complete) t r s p → s.left ≡ None
    comes_back (inl g) st = absurd (⊎_elim
        (λ (e : IsEven x.own.arrivals × (g.passes.begun.seen.stage ≡ In g.kind) × Comes x.own.number g.last g.kind × IsModeOf g.kind (state_of h.config g.passes.begun.seen.front).mode × LeavesEven h.config g.kind g.passes.begun y).
        let none : ⊥ = subst (λ (k : Kind). LeavesEven h.config k g.passes.begun y) (kind_here g.passes.begun g.kind st e.1) e.4 in none)
        (λ (o : IsOdd x.own.arrivals × (g.passes.begun.seen.stage ≡ Leads g.last) × LeavesOdd h.config (Caller complete) g.passes.begun y g.last g.kind). leads_never g.passes.begun g.last st o.1)
        g.passes.share)
    comes_back (inr (inl a)) st = absurd (run_answer (sym (kind_here a.answers.begun Answer st a.answers.comes.stage)))
    comes_back (inr (inr (inl a))) st = absurd (run_answer (sym (kind_here a.gives.begun Answer st a.gives.comes.stage)))
    comes_back (inr (inr (inr a))) st = ap (λ (z : RunView). z.left) a.run

  -- where it runs again it runs in the phase
  pub back_here : (p : PassesOn h (Caller complete) r s Did) → StandsBehind h (Caller complete) t r s p → s.left ≡ None → (y.own.arrivals ≡ t.phase) × ((j : ℕ) × (t.phase ≡ j * 2) × (t.kinds j ≡ Run))
  back_here (inl g) st back = absurd (none_some g.kind (sym back ∙ ap (λ (z : RunView). z.left) g.run))
  back_here (inr (inl a)) st back = absurd (none_some Answer (sym back ∙ ap (λ (z : RunView). z.left) a.run))
  back_here (inr (inr (inl a))) st back = absurd (none_some Answer (sym back ∙ ap (λ (z : RunView). z.left) a.run))
  back_here (inr (inr (inr a))) st back = subst (AtStage t y.own.number y.own.arrivals) a.runs st.stage

-- one of those that have arrived least often made a step
module _ (h : SharedHeap) (complete : Bool) (old mid new : List (Option RunView)) (at : ℕ) (l : Leveled old mid) (step : InStep old) (are : (d : ℕ) (r : RunView) → HasRun mid d r → IsRun r)
    (least : (d : ℕ) → IsSooner mid at d) (p : PassesAt h complete l.pause mid new at) where
  abbrev met : InStep mid
  met = met_in_step old mid l step

  abbrev s : RunView
  s = forgetting p.passed

  abbrev of : RunView → ℕ
  of q = q.token.view.own.arrivals

  did : Went h complete l.pause p.run p.passed
  did = went h complete l.pause p.run p.passed p.passes

  more : of p.run ≤ of s
  more = ⊎_elim (λ (b : (p.passed.left ≡ None) × (of p.passed ≡ of p.run)). let e = b.1 in omega (arith, e)) (λ (g : (p.passed.left ≢ None) × (of p.passed ≡ of p.run + 1)). let e = g.1 in omega (arith, e)) did

  -- one that runs still, where the domain has arrived
  others_run : (d : ℕ) (q : RunView) → HasRun mid d q → q.left ≡ None → s.left ≢ None → of s ≤ of q
  others_run d q there back gone =
      let here = runs_here old mid l are d q there back in
      let sooner = least d p.run q p.becomes.was there in
      let low = (near old mid l are at p.run p.becomes.was).0 in
      absurd (gone (comes_back h complete l.pause p.run p.passed here.1.0 here.1.1 here.1.2 p.passes p.stands))

  -- one that has arrived, where the domain runs again
  others_gone : (e : ℕ) (q : RunView) → HasRun mid e q → s.left ≡ None → q.left ≢ None → of q ≤ of s
  others_gone e q there back gone =
      let here = back_here h complete l.pause p.run p.passed p.passes p.stands back in
      let at_phase : of s ≡ l.pause.phase = here.0 in
      let high = (near old mid l are e q there).1 in
      ⊎_elim
      (λ (few : of q < of s + 1). omega (arith, few))
      (λ (many : of s + 1 ≤ of q).
      let j : ℕ = here.1.0 in
      let even : l.pause.phase ≡ j * 2 = here.1.1 in
      let odd : of q ≡ j * 2 + 1 = omega (arith, many, high, even, at_phase) in
      let kind : (k : Kind) → q.left ≡ Some k → k ≡ Run = λ k left. sym (knows_kind old mid l are e q there k j left odd) ∙ here.1.2 in
      let all = by q.left refl kind in
      let fewer = met.started e at q p.run there p.becomes.was all (j, odd) in
      let grown = more in
      absurd (omega (arith, fewer, grown, many)))
      (cases_lt (of q) (of s + 1))
    where
      by : (o : Option Kind) → q.left ≡ o → ((k : Kind) → q.left ≡ Some k → k ≡ Run) → q.left ≡ Some Run
      by None is kind = absurd (gone is)
      by (Some k) is kind = is ∙ ap (λ (c : Kind). Some c) (kind k is)

  pub passed_in_step : InStep new
  passed_in_step = record {
    behind = λ d e q z at_q at_z back gone. ⊎_elim
        (λ (mine : (d ≡ at) × (q ≡ s)). ⊎_elim
        (λ (too : (e ≡ at) × (z ≡ s)). absurd (gone (ap (λ (w : RunView). w.left) (too.1 ∙ sym mine.1) ∙ back)))
        (λ (other : (e ≢ at) × HasRun mid e z). subst (λ (w : RunView). of z ≤ of w) (sym mine.1) (others_gone e z other.1 (ap (λ (w : RunView). w.left) (sym mine.1) ∙ back) gone))
        (becomes_stood h mid new at p.run s p.becomes e z at_z))
        (λ (away : (d ≢ at) × HasRun mid d q). ⊎_elim
        (λ (mine : (e ≡ at) × (z ≡ s)). subst (λ (w : RunView). of w ≤ of q) (sym mine.1) (others_run d q away.1 back (λ none. gone (ap (λ (w : RunView). w.left) mine.1 ∙ none))))
        (λ (other : (e ≢ at) × HasRun mid e z). met.behind d e q z away.1 other.1 back gone)
        (becomes_stood h mid new at p.run s p.becomes e z at_z))
        (becomes_stood h mid new at p.run s p.becomes d q at_q);
    started = λ d e q z at_q at_z left odd. ⊎_elim
        (λ (mine : (d ≡ at) × (q ≡ s)). absurd (not_started h complete l.pause p.run p.passed p.passes (ap (λ (w : RunView). w.left) (sym mine.1) ∙ left) (subst (λ (w : RunView). IsOdd (of w)) mine.1 odd)))
        (λ (away : (d ≢ at) × HasRun mid d q). ⊎_elim
        (λ (mine : (e ≡ at) × (z ≡ s)).
        let before = met.started d at q p.run away.1 p.becomes.was left odd in
        let grown = more in
        let now : of q ≤ of s = omega (arith, before, grown) in
        subst (λ (w : RunView). of q ≤ of w) (sym mine.1) now)
        (λ (other : (e ≢ at) × HasRun mid e z). met.started d e q z away.1 other.1 left odd)
        (becomes_stood h mid new at p.run s p.becomes e z at_z))
        (becomes_stood h mid new at p.run s p.becomes d q at_q);
  }

-- all have arrived
pub halted_in_step : (old mid new : List (Option RunView)) (l : Leveled old mid) → ((d : ℕ) (r : RunView) → HasRun mid d r → IsRun r) → ((d : ℕ) (r : RunView) → HasRun mid d r → r.left ≡ None)
    → ((d : ℕ) (s : RunView) → HasRun new d s → (r : RunView) × HasRun mid d r × (s ≡ halted_run r)) → InStep new
halted_in_step old mid new l are run from = record {
  behind = λ d e r s at there back gone. let f = from d r at in absurd (none_some Run (sym back ∙ ap (λ (x : RunView). x.left) f.2));
  started = λ d e r s at there left odd.
      let f = from d r at in
      let g = from e s there in
      let one = (runs_here old mid l are d f.0 f.1 (run d f.0 f.1)).0 in
      let two = (runs_here old mid l are e g.0 g.1 (run e g.0 g.1)).0 in
      let first : r.token.view.own.arrivals ≡ f.0.token.view.own.arrivals + 1 = ap (λ (x : RunView). x.token.view.own.arrivals) f.2 in
      let second : s.token.view.own.arrivals ≡ g.0.token.view.own.arrivals + 1 = ap (λ (x : RunView). x.token.view.own.arrivals) g.2 in
      omega (arith, one, two, first, second);
}
