-- A `full_major` that has asked for a pause is answered in it, where a complete collection is made.
use Rattle.std.proofs.Common.{true≢false, ◌≡◌, ◌≢◌, ◌∙◌, inl, inr, ◌+◌, ◌*◌, ◌<◌, ⊎_elim, ℕ, Bool, true, false, List, [], Option, Some, None, length, map, slice_get, arith, refl, sym, ap, subst}
use Rattle.std.proofs.lemmas.List.{length-map}
use Rattle.model_core.specs.declared.command.Command as model
use Rattle.model_core.specs.declared.command.Command.TheVariants.{FullMajor}
use Rattle.model_core.specs.Domains.{domain_at}
use Rattle.heap_rule.specs.declared.config.Config.{Config}
use Rattle.heap_rule.specs.declared.phase.Kind.{Kind}
use Rattle.heap_rule.specs.declared.phase.Kind.TheVariants.{Run, Promote, Reset, Roots, Mark, Rounds, Decide, Queued, Clean, Lasts, Sweep, Answer}
use Rattle.heap_rule.specs.declared.view.DomainView.{DomainView}
use Rattle.heap_rule.specs.Limits.{sizes_in}
use Rattle.heap_rule.specs.declared.view.Finalisers.{Finalisers}
use Rattle.heap_rule.specs.declared.view.Waiting.{Waiting}
use Rattle.heap_rule.specs.Phases.{IsEven, IsOdd}
use Rattle.heap_rule.specs.Rule.{state_of}
use Rattle.heap_rule.specs.Token.{SharedHeap, IsIn}
use Rattle.gc_copy.specs.Held.{bare_waiting}
use Rattle.gc_pause.specs.declared.phases.decider.Decider.TheVariants.{Caller}
use Rattle.gc_pause.proofs.OfLaws.Blocks.{owes_few}
use Rattle.run_turns.specs.declared.supply.Supply.TheVariants.{Listed, Open, Section}
use Rattle.run_turns.specs.declared.turned.Turned.{Turned}
use Rattle.run_turns.specs.declared.turned.Turned.TheVariants.{Did, Hungry, Held, Idle}
use Rattle.run_turns.specs.declared.turned.Turned.TheVariants.{Waiting as WaitsFor}
use Rattle.run_turns.specs.declared.turned.Turned.TheVariants.{Ended as Over}
use Rattle.run_turns.specs.Pausing.{LeavesEven}
use Rattle.run_turns.specs.Runs.{RunView, CalmAnswers, CalmDid, GoesBy, IsRun, Resumes, SeesAnswer, is_asked, run_seeing}
use Rattle.run_turns.specs.Runs.CalmDid.{Finalises, Wishes, Refuses, Tries, Works, Ends, Sees, Makes, Tells, WishesToTell}
use Rattle.run_turns.proofs.LeavingLemmas.{passes_leaves}
use Rattle.run_turns.proofs.Turning.{not_full as is_short}
use Rattle.text_script.specs.declared.schedule.drive.together.Stepped.{Stepped}
use Rattle.text_script.specs.declared.schedule.drive.together.Stepped.TheVariants.{Ran, Made, Needs}
use Rattle.text_script.specs.Schedule.Drive.Together.{IsServed}
use Rattle.run_replay.specs.Gathered.{asked_for, one_run}
use Rattle.run_replay.specs.Moves.{CameTo, halted_run}
use Rattle.run_replay.specs.Served.{IsBehindAnswer, Serves, WaitsAt}
use Rattle.run_replay.specs.Walk.{IsOfCollection}
use Rattle.run_replay.proofs.CalmLemmas.{asking_asked, calm_keeps}
use Rattle.run_replay.proofs.InStep.{not_even}
use Rattle.run_replay.proofs.SlotLemmas.{at_first, inside}
use Rattle.run_replay.proofs.TurnLemmas.{empty_list}

-- no domain is behind an answer as it runs, or as it has arrived from its commands
none_behind : (d arrivals : ℕ) → IsBehindAnswer d arrivals None → ⊥
none_behind d arrivals = ⊎_elim (λ other. let e : ◌≡◌ {A = Option Kind} None (Some Answer) = other.1 in cc) (λ first. ⊎_elim (λ gone. let e : ◌≡◌ {A = Option Kind} None (Some Answer) = gone.0 in cc) (λ named. let e : ◌≡◌ {A = Option Kind} None (Some Run) = named.0 in cc) first.1)

-- nor as it has gone through another phase
other_behind : (d arrivals : ℕ) (kind : Kind) → kind ≢ Answer → IsOdd arrivals → IsBehindAnswer d arrivals (Some kind) → ⊥
other_behind d arrivals kind other odd = ⊎_elim
    (λ away. other (let e : ◌≡◌ {A = Option Kind} (Some kind) (Some Answer) = away.1 in cc))
    (λ first. ⊎_elim (λ gone. other (let e : ◌≡◌ {A = Option Kind} (Some kind) (Some Answer) = gone.0 in cc)) (λ named. not_even arrivals odd named.1) first.1)

-- a run that waits as another did
waits_as : (r s : RunView) → s.commands ≡ r.commands → s.next ≡ r.next → s.asked ≡ r.asked → WaitsAt s → WaitsAt r
waits_as r s commands next asked w = record {
  next = (λ i. slice_get (sym commands i) (sym next i)) ∙ w.next;
  wished = ap is_asked (sym asked) ∙ w.wished;
}

-- one that has asked for nothing waits for nothing
none_waits : (s : RunView) → s.asked ≡ None → WaitsAt s → ⊥
none_waits s none w = true≢false (sym w.wished ∙ ap is_asked none)

pub none_serves : (complete : Bool) (d : ℕ) (s : RunView) → s.asked ≡ None → Serves complete d s
none_serves complete d s none = record { paid = λ w. absurd (none_waits s none w); unqueued = λ how w. absurd (none_waits s none w); answered = λ full behind w. none_waits s none w }

-- a domain that has seen more of the history
pub seeing_serves : (complete : Bool) (d : ℕ) (r : RunView) (history : _) → Serves complete d r → Serves complete d (run_seeing r history)
seeing_serves complete d r history v = record {
  paid = λ w. v.paid (record { next = w.next; wished = w.wished });
  unqueued = λ how w. v.unqueued how (record { next = w.next; wished = w.wished });
  answered = λ full behind w. v.answered full behind (record { next = w.next; wished = w.wished });
}

-- one that arrives from its commands, whatever is made in the pause
pub halted_serves : (before complete : Bool) (d : ℕ) (r : RunView) → r.left ≡ None → IsEven r.token.view.own.arrivals → Serves before d r → Serves complete d (halted_run r)
halted_serves before complete d r left even v = record {
  paid = λ w. v.paid (record { next = w.next; wished = w.wished });
  unqueued = λ how w. v.unqueued (inl left) (record { next = w.next; wished = w.wished });
  answered = λ full behind w. other_behind d (r.token.view.own.arrivals + 1) Run (λ e. cc) (let j : ℕ = even.0 in let is : r.token.view.own.arrivals ≡ j * 2 = even.1 in (j, omega (arith, is))) behind;
}

-- a step of a running domain
module _ (h : SharedHeap) (complete : Bool) (d : ℕ) (r s : RunView) (stepped : Stepped) (listed : r.supply ≡ Listed) (left : r.left ≡ None) (goes_on : r.ended ≡ false) (here : IsIn s.token h) (is : IsRun s) (came : CameTo h.config s r.next (length r.replies) stepped) (v : Serves complete d r) where
  other : r.supply ≡ Section → ⊥
  other section = let e : Listed ≡ Section = sym listed ∙ section in cc

  -- it runs, and so is behind no answer
  running : s.left ≡ None → (WaitsAt s → s.due ≡ 0) → (WaitsAt s → s.token.view.own.finalisers.queue.items ≡ []) → Serves complete d s
  running now paid unqueued = record {
    paid = paid;
    unqueued = λ how w. unqueued w;
    answered = λ full behind w. none_behind d s.token.view.own.arrivals (subst (IsBehindAnswer d s.token.view.own.arrivals) now behind);
  }

  never : s.left ≡ None → (WaitsAt s → ⊥) → Serves complete d s
  never now none = running now (λ w. absurd (none w)) (λ w. absurd (none w))

  -- where none waits in the queue it owes none
  owes_none : s.next ≡ r.next → length s.replies ≡ length r.replies → s.ended ≡ r.ended → s.token.view.own.finalisers.queue.items ≡ [] → s.due ≡ 0
  owes_none next replies ended empty = by stepped came where
    going : s.ended ≡ false
    going = ended ∙ goes_on

    queue : (c : Stepped) → CameTo h.config s r.next (length r.replies) c → length (domain_at (state_of h.config s.token.view.seen.front) s.token.view.own.number).queue ≡ length s.token.view.own.finalisers.queue.items
    queue Made at = absurd (⊎_elim (λ away. away next) (λ over. true≢false (sym over ∙ going)) at)
    queue Ran at = absurd (at.2 replies)
    queue (Needs b) at = at.5

    by : (c : Stepped) → CameTo h.config s r.next (length r.replies) c → s.due ≡ 0
    by c at =
        let same = queue c at in
        let none : length s.token.view.own.finalisers.queue.items ≡ 0 = ap length empty in
        let few = owes_few (sizes_in h.config) s.token.view.seen.front s.token.view.own.number in
        let owed : (domain_at (state_of h.config s.token.view.seen.front) s.token.view.own.number).due ≡ s.due = subst (λ (k : Config). (domain_at (state_of k s.token.view.seen.front) s.token.view.own.number).due ≡ s.due) here.1 (is.owes going) in
        omega (arith, same, none, few, owed)

  did : s.left ≡ None → CalmDid h r s → Serves complete d s
  did now (Finalises f) = never now (λ w.
      let was : WaitsAt r = waits_as r s (ap (λ (u : RunView). u.commands) f.run) (ap (λ (u : RunView). u.next) f.run) (ap (λ (u : RunView). u.asked) f.run) w in
      let none : r.token.view.own.finalisers.queue.items ≡ [] = v.unqueued (inl left) was in
      let first = f.first.is_first in
      let few : 0 < length r.token.view.own.finalisers.queue.items = inside r.token.view.own.finalisers.queue.items 0 f.first.first first in
      let empty : length r.token.view.own.finalisers.queue.items ≡ 0 = ap length none in omega (arith, few, empty))
  did now (Wishes a) =
      let empty : s.token.view.own.finalisers.queue.items ≡ [] = ap (λ (u : RunView). u.token.view.own.finalisers.queue.items) a.run ∙ a.unqueued in
      running now (λ w. owes_none (ap (λ (u : RunView). u.next) a.run) (ap (λ (u : RunView). length u.replies) a.run) (ap (λ (u : RunView). u.ended) a.run) empty) (λ w. empty)
  did now (Refuses a) = never now (λ w.
      let at : slice_get r.commands r.next ≡ Some FullMajor = (λ i. slice_get (sym (ap (λ (u : RunView). u.commands) a.run) i) (sym (ap (λ (u : RunView). u.next) a.run) i)) ∙ w.next in
      is_short h.config r.token.view.own _ a.command a.ready (let e : Some a.command ≡ Some FullMajor = sym a.next ∙ at in cc))
  did now (Tries c another t) = none_serves complete d s (ap (λ (u : RunView). u.asked) t.run)
  did now (Works p) = none_serves complete d s (ap (λ (u : RunView). u.asked) p.run ∙ (asking_asked p.spent p.made ∙ ap (λ (u : RunView). u.asked) p.tried.run))
  did now (Ends e) = never now (λ w.
      let at : slice_get r.commands r.next ≡ Some FullMajor = (λ i. slice_get (sym (ap (λ (u : RunView). u.commands) e.run) i) (sym (ap (λ (u : RunView). u.next) e.run) i)) ∙ w.next in
      let below = inside r.commands r.next FullMajor at in
      let past = e.past in omega (arith, below, past))
  did now (Sees t) = absurd (other t.sectioned)
  did now (Makes c t) = absurd (other t.sectioned)
  did now (Tells t) = absurd (other t.sectioned)
  did now (WishesToTell a) = absurd (other a.sectioned)

  pub calm_serves : (a : Turned) → CalmAnswers h r s a → Serves complete d s
  calm_serves a says = by a ((calm_keeps h r s a says).left ∙ left) says where
    by : (b : Turned) → s.left ≡ None → CalmAnswers h r s b → Serves complete d s
    by Did now c = did now c
    by (WaitsFor n) now c = absurd c
    by Hungry now c = absurd (let e : Open ≡ Listed = sym c.more ∙ listed in cc)
    by (Held section) now c = absurd (other c.sectioned)
    by (Idle n) now c = absurd (true≢false (sym c.0.over ∙ goes_on))
    by Over now c = absurd (true≢false (sym c.over ∙ goes_on))

-- where no collection is made an even phase leaves nothing in a queue in which nothing was
quiet_even : (k : Config) (kind : Kind) (b y : DomainView) → LeavesEven k kind b y → IsOfCollection kind ≡ false → b.own.finalisers.queue.items ≡ [] → y.own.finalisers.queue.items ≡ []
quiet_even k Run b y l of none = absurd l
quiet_even k Promote b y l of none =
    let moved : length (map bare_waiting l.done.own.finalisers.queue.items) ≡ length (map bare_waiting b.own.finalisers.queue.items) = ap (λ (fs : Finalisers). length fs.queue.items) l.shared.finalisers.rest in
    let after = length-map l.done.own.finalisers.queue.items bare_waiting in
    let before = length-map b.own.finalisers.queue.items bare_waiting in
    let empty : length b.own.finalisers.queue.items ≡ 0 = ap length none in
    ap (λ (v : DomainView). v.own.finalisers.queue.items) l.view ∙ empty_list l.done.own.finalisers.queue.items (omega (arith, moved, after, before, empty))
quiet_even k Reset b y l of none = ap (λ (v : DomainView). v.own.finalisers.queue.items) l.view ∙ none
quiet_even k Roots b y l of none = absurd (true≢false of)
quiet_even k Mark b y l of none = absurd (true≢false of)
quiet_even k Rounds b y l of none = absurd (true≢false of)
quiet_even k Decide b y l of none = absurd (true≢false of)
quiet_even k Queued b y l of none = absurd (true≢false of)
quiet_even k Clean b y l of none = absurd (true≢false of)
quiet_even k Lasts b y l of none = absurd (true≢false of)
quiet_even k Sweep b y l of none = absurd (true≢false of)
quiet_even k Answer b y l of none = absurd l

no_answer : (k : Config) (kind : Kind) (b y : DomainView) → LeavesEven k kind b y → kind ≢ Answer
no_answer k kind b y l is = subst (λ (c : Kind). LeavesEven k c b y) is l

-- a step in a pause
module _ (h : SharedHeap) (complete : Bool) (d : ℕ) (r s : RunView) (number : r.token.view.own.number ≡ d) (v : Serves complete d r) where
  abbrev queue : DomainView → List Waiting
  queue x = x.own.finalisers.queue.items

  -- it went through the phase that had begun
  module _ (g : GoesBy h (Caller complete) r s) (quiet : complete ≡ false → IsEven r.token.view.own.arrivals → IsOfCollection g.kind ≡ false) (ends : complete ≡ true → d ≡ 0 → g.kind ≡ Run → g.last ≡ Answer) where
    abbrev begun : DomainView
    begun = g.passes.begun

    went : WaitsAt s → WaitsAt r
    went w = waits_as r s (ap (λ (u : RunView). u.commands) g.run) (ap (λ (u : RunView). u.next) g.run) (ap (λ (u : RunView). u.asked) g.run) w

    left_is : s.left ≡ Some g.kind
    left_is = ap (λ (u : RunView). u.left) g.run

    begun_queue : queue begun ≡ queue r.token.view
    begun_queue = ap queue g.passes.passed.view

    begun_number : begun.own.number ≡ d
    begun_number = ap (λ (x : DomainView). x.own.number) g.passes.passed.view ∙ number

    more : s.token.view.own.arrivals ≡ r.token.view.own.arrivals + 1
    more = (passes_leaves (Caller complete) h.config r.token.view s.token.view g.last g.kind g.passes).arrivals

    odd_after : IsEven r.token.view.own.arrivals → IsOdd s.token.view.own.arrivals
    odd_after e = let j : ℕ = e.0 in let was : r.token.view.own.arrivals ≡ j * 2 = e.1 in (j, omega (arith, was, more))

    even_after : IsOdd r.token.view.own.arrivals → IsEven s.token.view.own.arrivals
    even_after o = let j : ℕ = o.0 in let was : r.token.view.own.arrivals ≡ j * 2 + 1 = o.1 in (j + 1, omega (arith, was, more))

    still : complete ≡ false → queue r.token.view ≡ [] → queue s.token.view ≡ []
    still none empty = ⊎_elim
        (λ e. quiet_even h.config g.kind begun s.token.view e.4 (quiet none e.0) (begun_queue ∙ empty))
        (λ o. ⊎_elim
        (λ l. ap queue l.1.view ∙ (begun_queue ∙ empty))
        (λ f. ap queue f.2 ∙ (begun_queue ∙ empty))
        o.2)
        g.passes.share

    no_more : complete ≡ true → IsBehindAnswer d s.token.view.own.arrivals s.left → WaitsAt r → ⊥
    no_more full at w =
        let behind : IsBehindAnswer d s.token.view.own.arrivals (Some g.kind) = subst (IsBehindAnswer d s.token.view.own.arrivals) left_is at in
        ⊎_elim
        (λ e. other_behind d s.token.view.own.arrivals g.kind (no_answer h.config g.kind begun s.token.view e.4) (odd_after e.0) behind)
        (λ o. ⊎_elim
        (λ l.
        let first : d ≡ 0 = sym begun_number ∙ l.0 in
        ⊎_elim (λ away. away.0 first)
        (λ zeroth. ⊎_elim
        (λ gone. not_even s.token.view.own.arrivals gone.1 (even_after o.0))
        (λ named.
        let run : g.kind ≡ Run = (let e : ◌≡◌ {A = Option Kind} (Some g.kind) (Some Run) = named.0 in cc) in
        v.answered full (inr (first, inl (g.arrived ∙ ap Some (ends full first run), o.0))) w)
        zeroth.1)
        behind)
        (λ f.
        ⊎_elim
        (λ away.
        let answer : g.kind ≡ Answer = (let e : ◌≡◌ {A = Option Kind} (Some g.kind) (Some Answer) = away.1 in cc) in
        v.answered full (inl (away.0, g.arrived ∙ ap Some (sym f.1 ∙ answer))) w)
        (λ zeroth. f.0 (begun_number ∙ zeroth.0))
        behind)
        o.2)
        g.passes.share

    pub goes_serves : Serves complete d s
    goes_serves = record {
      paid = λ w. ap (λ (u : RunView). u.due) g.run ∙ v.paid (went w);
      unqueued = λ how w. ⊎_elim (λ left. absurd (let e : ◌≡◌ {A = Option Kind} None (Some g.kind) = sym left ∙ left_is in cc)) (λ none. still none (v.unqueued (inr none) (went w))) how;
      answered = λ full behind w. no_more full behind (went w);
    }

  -- it came to the answer, and wasn't answered
  pub sees_serves : complete ≡ true → SeesAnswer h r s → Serves complete d s
  sees_serves full a =
      let was : WaitsAt s → WaitsAt r = waits_as r s (ap (λ (u : RunView). u.commands) a.run) (ap (λ (u : RunView). u.next) a.run) (ap (λ (u : RunView). u.asked) a.run) in record {
        paid = λ w. ap (λ (u : RunView). u.due) a.run ∙ v.paid (was w);
        unqueued = λ how w. absurd (a.none (let b = was w in record { next = b.next; paid = v.paid b; wished = b.wished }));
        answered = λ _ behind w. a.none (let b = was w in record { next = b.next; paid = v.paid b; wished = b.wished });
      }

  -- the domains run again
  module _ (a : Resumes h r s) (behind : complete ≡ true → IsBehindAnswer d r.token.view.own.arrivals r.left) where
    back : WaitsAt s → WaitsAt r
    back w = waits_as r s (ap (λ (u : RunView). u.commands) a.run) (ap (λ (u : RunView). u.next) a.run) (ap (λ (u : RunView). u.asked) a.run) w

    waits_no : complete ≡ true → WaitsAt s → ⊥
    waits_no full w = v.answered full (behind full) (back w)

    pub resumes_serves : Serves complete d s
    resumes_serves = record {
      paid = λ w. ap (λ (u : RunView). u.due) a.run ∙ v.paid (back w);
      unqueued = λ how w. by complete refl w;
      answered = λ full at w. waits_no full w;
    }
      where
        by : (b : Bool) → complete ≡ b → WaitsAt s → queue s.token.view ≡ []
        by true full w = absurd (waits_no full w)
        by false none w = ap queue a.passed.view ∙ v.unqueued (inr none) (back w)

    pub resumes_served : complete ≡ true → IsServed (one_run s)
    resumes_served full others left = ap (λ (cs : List model.Command). asked_for cs s.asked) left ∙ by (is_asked s.asked) refl
      where
        by : (b : Bool) → is_asked s.asked ≡ b → is_asked s.asked ≡ false
        by true is = absurd (waits_no full (record { next = at_first s.commands s.next FullMajor others left; wished = is }))
        by false is = is
