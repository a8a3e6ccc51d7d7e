-- The runs of a heap after the calls on one of them.
use Rattle.std.proofs.Common.{true≢false, ⊎_elim, ◌≡◌, ◌≢◌, ◌∙◌, ◌<◌, ◌≤◌, ◌+◌, ◌*◌, ◌%◌, ◌^◌, ◌==◌, ◌++◌, inl, inr, if◌then◌else◌, ℕ, suc, Bool, true, false, List, [], ◌∷◌, Option, Some, None, length, length-set, map, arith, refl, sym, ap, subst}
use Rattle.std.specs.Prelude.{slice_get, slice_set}
use Rattle.std.proofs.lemmas.List.{length-map}
use mathlib.Core.Logic.{dite}
use native.Mathlib.Decide.{ℕ_discrete}
use Rattle.model_core.specs.declared.command.Command.{Command}
use Rattle.model_core.specs.declared.command.Command.TheVariants.{Finalise, FinaliseLast}
use Rattle.model_core.specs.declared.entry.Entry.{Entry}
use Rattle.heap_rule.specs.declared.phase.Kind.{Kind}
use Rattle.heap_rule.specs.declared.phase.Kind.TheVariants.{Run}
use Rattle.heap_rule.specs.declared.phase.Stage.TheVariants.{In}
use Rattle.heap_rule.specs.Limits.{sizes_in}
use Rattle.heap_rule.specs.Phases.{IsEven}
use Rattle.heap_rule.specs.Token.{SharedHeap, IsIn}
use Rattle.run_turns.specs.declared.supply.Supply.{Supply}
use Rattle.run_turns.specs.declared.supply.Supply.TheVariants.{Listed}
use Rattle.run_turns.specs.Runs.{RunView, IsRun, StandsAt, most_ran, registrations_in}
use Rattle.run_turns.specs.Tries.{registrations_of}
use Rattle.text_script.specs.Schedule.Drive.Together.{OneRun, Lead, Rests, Leads, Has, AllHave, LeadStep, Passed, SharesOn, SomeGone, Stands, Turned, Unqueued, all_halted, halted}
use Rattle.run_replay.specs.Walk.{IsWalk}
use Rattle.gc_pause.specs.declared.phases.decider.Decider.TheVariants.{Caller}
use Rattle.run_replay.specs.Asking.{AskFew, AsksOnce, HasAmple, commands_at}
use Rattle.run_replay.specs.Gathered.{GatheredView, GoneAt, HasRun, InStep, IsGathered, IsHeld, MayShare, PassedBy, Steps, Walk, is_even, is_running, lead_by, lead_in, lead_of, one_run, run_at, seen_in}
use Rattle.run_replay.specs.Leveled.{AllHere, Leveled}
use Rattle.run_replay.specs.Served.{AllTied, Serves}
use Rattle.run_replay.specs.Pace.{last_arrival, last_of, pace_of, spare_of}
use Rattle.run_turns.specs.declared.turned.Turned.TheVariants.{Did}
use Rattle.model_core.specs.History.{IsPrefix}
use Rattle.run_replay.specs.Moves.{Becomes, IsSooner, HaltsUpto, PassesAt, StepsAt, forgetting, halted_run}
use Rattle.text_script.specs.declared.schedule.drive.together.Stepped.{Stepped}
use Rattle.model_core.specs.Domains.{IsWithinLimits, domain_at, opening}
use Rattle.heap_rule.specs.declared.phase.Progress.{Progress}
use Rattle.heap_rule.specs.Rule.{state_of}
use Rattle.step_run.proofs.OfQueues.Queues.{queue_of_front}
use Rattle.run_replay.proofs.Asking.{calm_asks, halted_asks, halted_seen_run, passed_asks, passes_gone, seeing_asks}
use Rattle.run_replay.proofs.CalmLemmas.{KeepsRun, calm_keeps}
use Rattle.run_replay.proofs.Behind.{prefix_same}
use Rattle.run_replay.proofs.Served.{calm_serves, halted_serves, seeing_serves}
use Rattle.run_replay.proofs.Serving.{halted_tied, met_tied, passed_served, passed_serves, passed_tied, running_tied}
use Rattle.run_replay.proofs.InStep.{becomes_stood, halted_in_step, made_in_step, met_in_step, met_least, passed_in_step}
use Rattle.run_replay.proofs.LevelLemmas.{level_front}
use Rattle.run_replay.proofs.PassLemmas.{passed}
use Rattle.run_replay.proofs.Pace.{halted_last, last_at, last_high, met_last, passed_last, passed_nearer}
use Rattle.run_replay.proofs.Places.{get_map, set_else, set_here, set_map}
use Rattle.run_replay.proofs.Sharing.{halted_shares, leveled_shares, shares_on}
use Rattle.run_replay.proofs.SlotLemmas.{inside, one_there}
use Rattle.run_replay.proofs.TurnLemmas.{TurnedBy, empty_list}
use Rattle.run_replay.proofs.Walk.{walk_begins}

-- lists that are the same at each place
pub same_lists : {A : Type 0} (xs ys : List A) → length ys ≡ length xs → ((i : ℕ) (y : A) → slice_get ys i ≡ Some y → slice_get xs i ≡ Some y) → ys ≡ xs
same_lists [] [] count at = refl
same_lists [] (y ∷ ys) count at = absurd (omega (arith, count))
same_lists (x ∷ xs) [] count at = absurd (omega (arith, count))
same_lists (x ∷ xs) (y ∷ ys) count at =
    let here : x ≡ y = let e : ◌≡◌ {A = Option _} (Some x) (Some y) = at 0 y refl in cc in
    let rest : ys ≡ xs = same_lists xs ys (omega (arith, count)) (λ i z is. at (suc i) z is) in
    λ i. sym here i ∷ rest i

-- how far the first has led
pub lead_at : (complete : Bool) (runs : List (Option RunView)) (r : RunView) → HasRun runs 0 r → lead_by complete runs ≡ lead_of complete r
lead_at complete [] r is = cc
lead_at complete (o ∷ os) r is = let here : o ≡ Some r = cc in ap (λ (p : Option RunView). lead_by complete (p ∷ os)) here

-- the commands of runs that go on are the same
pub same_commands : (old new : List (Option RunView)) → length new ≡ length old → ((d : ℕ) → d < length new → (r : RunView) × HasRun new d r) → ((d : ℕ) (s : RunView) → HasRun new d s → (r : RunView) × HasRun old d r × (s.commands ≡ r.commands)) → map commands_at new ≡ map commands_at old
same_commands old new count filled from = same_lists (map commands_at old) (map commands_at new) (length-map new commands_at ∙ (count ∙ sym (length-map old commands_at)))
    (λ d cs is.
    let f = filled d (subst (λ (n : ℕ). d < n) (length-map new commands_at) (inside (map commands_at new) d cs is)) in
    let m = from d f.0 f.1 in
    let same : cs ≡ f.0.commands = (let e : ◌≡◌ {A = Option (List Command)} (Some cs) (Some f.0.commands) = sym is ∙ get_map commands_at new d (Some f.0) f.1 in cc) in
    get_map commands_at old d (Some m.0) m.1 ∙ ap Some (sym (same ∙ m.2)))

-- none of them asks twice
pub all_few : (g : GatheredView) → IsGathered g → AskFew g.heap g.runs
all_few g all = record { count = all.count; numbers = λ d r is. (all.held d r is).number; listed = λ d r is. (all.held d r is).listed; asks = λ d r is. (all.held d r is).asks; enough = all.enough }

-- nor once they have met
pub level_few : (h : SharedHeap) (old new : List (Option RunView)) → AskFew h old → Leveled old new → AskFew h new
level_few h old new few l = record {
  count = l.count ∙ few.count;
  numbers = λ d r is. let m = l.more d r is in ap (λ (x : RunView). x.token.view.own.number) m.2.is ∙ few.numbers d m.0 m.1;
  listed = λ d r is. let m = l.more d r is in ap (λ (x : RunView). x.supply) m.2.is ∙ few.listed d m.0 m.1;
  asks = λ d r is. let m = l.more d r is in subst AsksOnce (sym m.2.is) (seeing_asks m.0 l.history (few.asks d m.0 m.1));
  enough = subst (HasAmple h.config) (sym (same_commands old new l.count (λ d below. l.stay d (subst (λ (k : ℕ). d < k) l.count below)) (λ d r is. let m = l.more d r is in (m.0, m.1, ap (λ (x : RunView). x.commands) m.2.is)))) few.enough;
}

-- each is of the heap
pub all_here : (g : GatheredView) → IsGathered g → AllHere g.heap g.runs
all_here g all = record { filled = all.filled; here = λ d r is. (all.held d r is).here; are = λ d r is. (all.held d r is).is }

-- what is seen of the places
pub map_filled : (runs : List (Option RunView)) (d : ℕ) (x : OneRun) → ((e : ℕ) → e < length runs → (r : RunView) × HasRun runs e r) → slice_get (map run_at runs) d ≡ Some x → (r : RunView) × HasRun runs d r × (x ≡ one_run r)
map_filled runs d x filled at =
    let within : d < length runs = subst (λ (n : ℕ). d < n) (length-map runs run_at) (inside (map run_at runs) d x at) in
    let f = filled d within in
    (f.0, f.1, let same : ◌≡◌ {A = Option OneRun} (Some x) (Some (one_run f.0)) = sym at ∙ get_map run_at runs d (Some f.0) f.1 in cc)

-- whether the domain of a run has arrived
pub gone_run : (g : GatheredView) (at : ℕ) → Has (λ x. x.runs) false (seen_in g) at → (r : RunView) → HasRun g.runs at r → r.left ≡ None → ⊥
gone_run g at gone r is none = true≢false (sym (ap is_running none) ∙ gone (one_run r) (get_map run_at g.runs at (Some r) is))

pub runs_run : (g : GatheredView) → AllHave (λ x. x.runs) true (seen_in g) → (d : ℕ) (r : RunView) → HasRun g.runs d r → r.left ≡ None
runs_run g all d r is = by r.left (all d (one_run r) (get_map run_at g.runs d (Some r) is))
  where
    by : (o : Option Kind) → is_running o ≡ true → o ≡ None
    by None e = refl
    by (Some kind) e = absurd (true≢false (sym e))

-- and where they have met
pub runs_met : (g : GatheredView) (mid : List (Option RunView)) → Leveled g.runs mid → AllHave (λ x. x.runs) true (seen_in g) → (d : ℕ) (r : RunView) → HasRun mid d r → r.left ≡ None
runs_met g mid l all d r is = let m = l.more d r is in ap (λ (x : RunView). x.left) m.2.is ∙ runs_run g all d m.0 m.1

-- domains that have met
module _ (g : GatheredView) (all : IsGathered g) (mid : List (Option RunView)) (l : Leveled g.runs mid) where
  abbrev pub met : GatheredView
  met = record g { runs = mid }

  pub met_count : length mid ≡ g.heap.config.domains
  met_count = l.count ∙ all.count

  pub met_held : (d : ℕ) (r : RunView) → HasRun mid d r → IsHeld met d r
  met_held d r is =
      let m = l.more d r is in
      let held = all.held d m.0 m.1 in
      record {
        is = l.are d r is;
        here = subst (λ (s : RunView). IsIn s.token g.heap) (sym m.2.is) held.here;
        number = ap (λ (s : RunView). s.token.view.own.number) m.2.is ∙ held.number;
        listed = ap (λ (s : RunView). s.supply) m.2.is ∙ held.listed;
        collected = ap (λ (s : RunView). s.collected) m.2.is ∙ held.collected;
        walk = λ first. subst (Walk g.complete) (sym m.2.is) (let w = held.walk first in record { armed = w.armed; unswept = w.unswept; on = w.on });
        asks = subst AsksOnce (sym m.2.is) (seeing_asks m.0 l.history held.asks);
        serves = subst (Serves g.complete d) (sym m.2.is) (seeing_serves g.complete d m.0 l.history held.serves);
      }

  pub met_all : IsGathered met
  met_all = record {
    count = met_count;
    filled = λ d below. l.stay d (subst (λ (n : ℕ). d < n) l.count below);
    held = met_held;
    enough = subst (HasAmple g.heap.config) (sym (same_commands g.runs mid l.count (λ d below. l.stay d (subst (λ (n : ℕ). d < n) l.count below)) (λ d r is. let m = l.more d r is in (m.0, m.1, ap (λ (x : RunView). x.commands) m.2.is)))) all.enough;
    in_step = met_in_step g.runs mid l all.in_step;
    tied = met_tied g.complete g.runs mid l all.tied;
  }

  pub met_seen : map run_at mid ≡ map run_at g.runs
  met_seen = same_lists (map run_at g.runs) (map run_at mid) (length-map mid run_at ∙ (l.count ∙ sym (length-map g.runs run_at)))
      (λ d x is.
      let f = map_filled mid d x met_all.filled is in
      let m = l.more d f.0 f.1 in
      get_map run_at g.runs d (Some m.0) m.1 ∙ ap Some (sym (f.2 ∙ ap one_run m.2.is)))

  pub met_lead : lead_by g.complete mid ≡ lead_by g.complete g.runs
  met_lead = dite (ℕ_discrete (length mid) 0) none some
    where
      none : length mid ≡ 0 → lead_by g.complete mid ≡ lead_by g.complete g.runs
      none e = empty mid g.runs e (sym l.count ∙ e)
        where
          empty : (xs ys : List (Option RunView)) → length xs ≡ 0 → length ys ≡ 0 → lead_by g.complete xs ≡ lead_by g.complete ys
          empty [] [] a b = refl
          empty (x ∷ xs) ys a b = absurd (omega (arith, a))
          empty [] (y ∷ ys) a b = absurd (omega (arith, b))

      some : length mid ≢ 0 → lead_by g.complete mid ≡ lead_by g.complete g.runs
      some filled =
          let f = met_all.filled 0 (let n : ℕ = length mid in omega (arith, filled)) in
          let m = l.more 0 f.0 f.1 in
          lead_at g.complete mid f.0 f.1 ∙ (ap (lead_of g.complete) m.2.is ∙ sym (lead_at g.complete g.runs m.0 m.1))

  pub met_shares : (h : List Entry) → MayShare met h → MayShare g h
  met_shares h ms = leveled_shares g mid l h ms

  -- and then one of them went on
  module _ (at : ℕ) (r s : RunView) (new : List (Option RunView)) (b : Becomes g.heap mid new at r s) (held : IsHeld met at s) (step : InStep new) where
    abbrev pub after : GatheredView
    after = record g { runs = new }

    pub within : at < length mid
    within = inside mid at (Some r) b.was

    pub there : HasRun new at s
    there = ap (λ (rs : List (Option RunView)). slice_get rs at) b.runs ∙ set_here mid at (Some s) within

    pub others : (d : ℕ) → d ≢ at → slice_get new d ≡ slice_get mid d
    others d away = ap (λ (rs : List (Option RunView)). slice_get rs d) b.runs ∙ set_else mid at d (Some s) away

    pub after_all : s.commands ≡ r.commands → AllTied g.complete new → IsGathered after
    after_all same tied = record {
      count = ap length b.runs ∙ (length-set mid at (Some s) ∙ met_count);
      filled = filled;
      enough = subst (HasAmple g.heap.config) (sym (same_commands mid new (ap length b.runs ∙ length-set mid at (Some s)) filled
          (λ d q is. dite (ℕ_discrete d at)
          (λ e. (r, subst (λ (n : ℕ). HasRun mid n r) (sym e) b.was, ap (λ (x : RunView). x.commands) (sym (one_there new at s q there (subst (λ (n : ℕ). HasRun new n q) e is))) ∙ same))
          (λ no. (q, sym (others d no) ∙ is, refl))))) met_all.enough;
      held = λ d q is. dite (ℕ_discrete d at)
          (λ e.
          let same : s ≡ q = one_there new at s q there (subst (λ (n : ℕ). HasRun new n q) e is) in
          subst (λ (n : ℕ). IsHeld after n q) (sym e) (subst (IsHeld after at) same (as_after at s held)))
          (λ no. as_after d q (met_held d q (sym (others d no) ∙ is)));
      in_step = step;
      tied = tied;
    }
      where
        filled : (d : ℕ) → d < length new → (q : RunView) × HasRun new d q
        filled d below = dite (ℕ_discrete d at)
            (λ e. (s, subst (λ (n : ℕ). HasRun new n s) (sym e) there))
            (λ no. let f = met_all.filled d (subst (λ (n : ℕ). d < n) (ap length b.runs ∙ length-set mid at (Some s)) below) in (f.0, others d no ∙ f.1))

        as_after : (d : ℕ) (q : RunView) → IsHeld met d q → IsHeld after d q
        as_after d q i = record { is = i.is; here = i.here; number = i.number; listed = i.listed; collected = i.collected; walk = i.walk; asks = i.asks; serves = i.serves }

    pub after_runs : map run_at new ≡ slice_set (map run_at g.runs) at (one_run s)
    after_runs = ap (map run_at) b.runs ∙ (set_map run_at mid at (Some s) ∙ ap (λ (xs : List OneRun). slice_set xs at (one_run s)) met_seen)

    pub was_seen : slice_get (map run_at g.runs) at ≡ Some (one_run r)
    was_seen = ap (λ (xs : List OneRun). slice_get xs at) (sym met_seen) ∙ get_map run_at mid at (Some r) b.was

    pub after_shares : (own : List Entry) → Steps at r.token.view.seen.front s.token.view.seen.front own → SharesOn (MayShare g) (MayShare after) own
    after_shares own st h ms =
        let both = shares_on g mid at r s own g.complete b.was met_count met_all.filled (λ d q is. (met_held d q is).number) held.number
        (λ d q is. subst (IsPrefix q.token.view.seen.front) (level_front g.runs mid l d q is ∙ sym (level_front g.runs mid l at r b.was)) (prefix_same q.token.view.seen.front)) st h
        (subst (λ (rs : List (Option RunView)). MayShare (record g { runs = rs }) h) b.runs ms) in
        (r.token.view.seen.front, met_shares r.token.view.seen.front both.0, both.1)

-- the domain of a run that is seen to run hasn't arrived
runs_again : (o : Option Kind) → is_running o ≡ true → o ≡ None
runs_again None e = refl
runs_again (Some kind) e = absurd (true≢false (sym e))

-- the run at a place passed on in a pause
module _ (g : GatheredView) (all : IsGathered g) (mid : List (Option RunView)) (at : ℕ) (l : Leveled g.runs mid) (least : (d : ℕ) → IsSooner g.runs at d) (new : List (Option RunView)) (p : PassesAt g.heap g.complete l.pause mid new at) where
  abbrev held_run : IsHeld (record g { runs = mid }) at p.run
  held_run = met_held g all mid l at p.run p.becomes.was

  abbrev number : ℕ
  number = p.run.token.view.own.number

  by : PassedBy g.complete number p.run p.passed
  by = passed g.heap g.complete p.run p.passed held_run.is p.is_passed held_run.asks (passes_gone (Caller g.complete) g.heap p.run p.passed Did p.passes) Did (λ first. held_run.walk (sym held_run.number ∙ first)) p.passes

  pass_by : PassedBy g.complete at p.run p.passed
  pass_by = subst (λ (d : ℕ). PassedBy g.complete d p.run p.passed) held_run.number by

  -- domain 0
  first_run : (r : RunView) × HasRun mid 0 r
  first_run = (met_all g all mid l).filled 0 (let w = inside mid at (Some p.run) p.becomes.was in omega (arith, w))

  first_walk : (r : RunView) → HasRun mid 0 r → Walk g.complete r
  first_walk r is = (met_held g all mid l 0 r is).walk refl

  pass_held : (supply : p.passed.supply ≡ p.run.supply) → (number : p.passed.token.view.own.number ≡ p.run.token.view.own.number) → IsHeld (record g { runs = mid }) at (forgetting p.passed)
  pass_held supply number = record {
    is = p.becomes.is;
    here = p.becomes.here;
    number = number ∙ held_run.number;
    listed = supply ∙ held_run.listed;
    collected = refl;
    walk = λ first. let w = pass_by.walk first in record { armed = w.armed; unswept = w.unswept; on = w.on };
    asks = let a = passed_asks (Caller g.complete) g.heap p.run p.passed Did held_run.asks (passes_gone (Caller g.complete) g.heap p.run p.passed Did p.passes) p.passes in record { before = a.before; arrived = a.arrived; forgotten = a.forgotten };
    serves = passed_serves g.runs mid l (λ d q is. (met_held g all mid l d q is).is) (λ d q is. (met_held g all mid l d q is).number) g.heap g.complete new at all.in_step first_walk first_run (λ d q is. (met_held g all mid l d q is).serves) (met_all g all mid l).tied p;
  }

  pass_tied : AllTied g.complete new
  pass_tied = passed_tied g.runs mid l (λ d q is. (met_held g all mid l d q is).is) (λ d q is. (met_held g all mid l d q is).number) g.heap g.complete new at all.in_step first_walk first_run (λ d q is. (met_held g all mid l d q is).serves) (met_all g all mid l).tied p

  pass_step : InStep new
  pass_step = passed_in_step g.heap g.complete g.runs mid new at l all.in_step (λ d q is. (met_held g all mid l d q is).is) (λ d. met_least g.runs mid l at d (least d)) p

  now_held : IsHeld (record g { runs = mid }) at (forgetting p.passed)
  now_held = pass_held p.supply p.number

  abbrev pub passed_view : GatheredView
  passed_view = record g { runs = new }

  pub passed_all : IsGathered passed_view
  passed_all = after_all g all mid l at p.run (forgetting p.passed) new p.becomes now_held pass_step p.commands pass_tied

  new_lead : at ≡ 0 → lead_by g.complete new ≡ lead_of g.complete p.passed
  new_lead first = lead_at g.complete new (forgetting p.passed) (subst (λ (n : ℕ). HasRun new n (forgetting p.passed)) first (there g all mid l at p.run (forgetting p.passed) new p.becomes now_held pass_step))

  old_lead : at ≡ 0 → lead_by g.complete g.runs ≡ lead_of g.complete p.run
  old_lead first = sym (met_lead g all mid l) ∙ lead_at g.complete mid p.run (subst (λ (n : ℕ). HasRun mid n p.run) first p.becomes.was)

  same_lead : at ≢ 0 → lead_by g.complete new ≡ lead_by g.complete g.runs
  same_lead away =
      let f = (met_all g all mid l).filled 0 (let w = within g all mid l at p.run (forgetting p.passed) new p.becomes now_held pass_step in omega (arith, w)) in
      lead_at g.complete new f.0 (others g all mid l at p.run (forgetting p.passed) new p.becomes now_held pass_step 0 (λ e. away (sym e)) ∙ f.1) ∙ (sym (lead_at g.complete mid f.0 f.1) ∙ met_lead g all mid l)

  pub passed_tells : Passed (MayShare g) (MayShare passed_view) (seen_in g) (seen_in passed_view) at
  passed_tells = record {
    run = one_run p.run;
    was = was_seen g all mid l at p.run (forgetting p.passed) new p.becomes now_held pass_step;
    becomes = one_run p.passed;
    control = pass_by.control;
    controls = dite (ℕ_discrete at 0)
        (λ first. inl (first, subst (λ (w : Lead × Lead). LeadStep w.0 w.1 pass_by.control) (λ i. (sym (old_lead first) i, sym (new_lead first) i)) (pass_by.leads first)))
        (λ away. inr (away, same_lead away, pass_by.silent away));
    own = pass_by.own;
    tells = pass_by.tells;
    served = λ complete back. passed_served g.runs mid l (λ d q is. (met_held g all mid l d q is).is) (λ d q is. (met_held g all mid l d q is).number) g.heap g.complete new at all.in_step first_walk first_run (λ d q is. (met_held g all mid l d q is).serves) (met_all g all mid l).tied p complete (runs_again p.passed.left back);
    on = after_shares g all mid l at p.run (forgetting p.passed) new p.becomes now_held pass_step (pass_by.control ++ pass_by.own) pass_by.steps;
    view = λ i. record { sizes = sizes_in g.heap.config; runs = after_runs g all mid l at p.run (forgetting p.passed) new p.becomes now_held pass_step i; lead = lead_by g.complete new; complete = g.complete };
  }

  passed_filled : (d : ℕ) → d < length new → (r : RunView) × HasRun new d r
  passed_filled = passed_all.filled

  passed_count : length new ≡ length mid
  passed_count = ap length p.becomes.runs ∙ length-set mid at (Some (forgetting p.passed))

  module _ (gone : GoneAt g.runs at) where
    still_gone : (r : RunView) → HasRun mid at r → r.left ≢ None
    still_gone r there none = let m = l.more at r there in gone m.0 m.1 (sym (ap (λ (x : RunView). x.left) m.2.is) ∙ none)

    -- it brings the pause nearer to its end
    pub passed_pace : pace_of passed_view < pace_of g
    passed_pace = passed_nearer g.heap g.complete g.runs mid new at l (λ d q is. (met_held g all mid l d q is).is) (λ d q is. (met_held g all mid l d q is).number) (λ d. met_least g.runs mid l at d (least d)) still_gone p passed_filled passed_count

    pub passed_spares : spare_of g ≤ spare_of passed_view
    passed_spares =
        let less = passed_last g.heap g.complete g.runs mid new at l (λ d q is. (met_held g all mid l d q is).is) (λ d q is. (met_held g all mid l d q is).number) (λ d. met_least g.runs mid l at d (least d)) still_gone p passed_filled passed_count in
        omega (arith, less)

-- all arrived
module _ (g : GatheredView) (all : IsGathered g) (mid : List (Option RunView)) (l : Leveled g.runs mid) (new : List (Option RunView)) (complete : Bool)
    (u : HaltsUpto g.heap mid new (length mid)) (runs : (d : ℕ) (r : RunView) → HasRun mid d r → r.left ≡ None) (some : 0 < g.heap.config.domains) where
  abbrev pub halted_view : GatheredView
  halted_view = record { heap = g.heap; runs = new; complete = complete }

  from : (d : ℕ) (s : RunView) → HasRun new d s → (r : RunView) × HasRun mid d r × (s ≡ halted_run r) × IsIn s.token g.heap × IsRun s
  from d s is = u.halted d s (subst (λ (n : ℕ). d < n) u.count (inside new d (Some s) is)) is

  halted_walk : (r : RunView) → Walk g.complete r → Walk complete (halted_run r)
  halted_walk r w = record {
    armed = w.armed;
    unswept = w.unswept;
    on = λ kind e. let is : Run ≡ kind = let f : ◌≡◌ {A = Option Kind} (Some Run) (Some kind) = e in cc in subst (λ (k : Kind). IsWalk complete k r.progress) is (walk_begins complete r.progress w.armed w.unswept);
  }

  pub halted_all_are : IsGathered halted_view
  halted_all_are = record {
    count = u.count ∙ met_count g all mid l;
    filled = λ d below. u.stay d (subst (λ (n : ℕ). d < n) u.count below);
    held = λ d s is.
        let f = from d s is in
        let held = met_held g all mid l d f.0 f.1 in
        record {
          is = f.4;
          here = f.3;
          number = ap (λ (x : RunView). x.token.view.own.number) f.2 ∙ held.number;
          listed = ap (λ (x : RunView). x.supply) f.2 ∙ held.listed;
          collected = ap (λ (x : RunView). x.collected) f.2;
          walk = λ first. subst (Walk complete) (sym f.2) (halted_walk f.0 (held.walk first));
          asks = subst AsksOnce (sym f.2) (halted_asks f.0 held.asks);
          serves = subst (Serves complete d) (sym f.2) (halted_serves g.complete complete d f.0 (runs d f.0 f.1) (held.is.between.even (runs d f.0 f.1)) held.serves);
        };
    tied = halted_tied complete mid new (λ d r is. (met_held g all mid l d r is).is.between.even (runs d r is)) (λ d s is. let f = from d s is in (f.0, f.1, f.2));
    in_step = halted_in_step g.runs mid new l (λ d q is. (met_held g all mid l d q is).is) runs (λ d s is. let f = from d s is in (f.0, f.1, f.2));
    enough = subst (HasAmple g.heap.config) (sym (same_commands mid new u.count (λ d below. u.stay d (subst (λ (n : ℕ). d < n) u.count below)) (λ d s is. let f = from d s is in (f.0, f.1, ap (λ (x : RunView). x.commands) f.2)))) (met_all g all mid l).enough;
  }

  first_there : (r : RunView) × HasRun mid 0 r
  first_there = (met_all g all mid l).filled 0 (let same = met_count g all mid l in omega (arith, same, some))

  pub halted_on : SharesOn (MayShare g) (MayShare halted_view) []
  halted_on h ms =
      let both = halted_shares g mid first_there.0 first_there.1 (met_held g all mid l 0 first_there.0 first_there.1).number (met_count g all mid l) (met_all g all mid l).filled
      (λ d q is. (met_held g all mid l d q is).number)
      (λ d q is. level_front g.runs mid l d q is ∙ sym (level_front g.runs mid l 0 first_there.0 first_there.1))
      halted_view refl still h ms in
      (first_there.0.token.view.seen.front, met_shares g all mid l first_there.0.token.view.seen.front both.0, both.1)
    where
      still : (d : ℕ) (q : RunView) → HasRun mid d q → (s : RunView) × HasRun new d s × (s.token.view.own.number ≡ q.token.view.own.number) × (s.token.view.seen.front ≡ q.token.view.seen.front)
      still d q is =
          let s = u.stay d (inside mid d (Some q) is) in
          let f = from d s.0 s.1 in
          let same : f.0 ≡ q = one_there mid d f.0 q f.1 is in
          (s.0, s.1, ap (λ (x : RunView). x.token.view.own.number) (f.2 ∙ ap halted_run same), ap (λ (x : RunView). x.token.view.seen.front) (f.2 ∙ ap halted_run same))

  odd_next : (n : ℕ) → IsEven n → is_even (n + 1) ≡ false
  odd_next n e = let j : ℕ = e.0 in let is : n ≡ j * 2 = e.1 in let one : (n + 1) % 2 ≡ 1 = omega arith in ap (λ (m : ℕ). m == 0) one

  pub halted_seen : seen_in halted_view ≡ all_halted complete (seen_in g)
  halted_seen = λ i. record { sizes = sizes_in g.heap.config; runs = same_runs i; lead = same_lead i; complete = complete }
    where
      same_runs : map run_at new ≡ map halted (map run_at g.runs)
      same_runs = same_lists (map halted (map run_at mid)) (map run_at new) (length-map new run_at ∙ (u.count ∙ (sym (length-map mid run_at) ∙ sym (length-map (map run_at mid) halted))))
          (λ d x is.
          let f = map_filled new d x halted_all_are.filled is in
          let m = from d f.0 f.1 in
          get_map halted (map run_at mid) d (one_run m.0) (get_map run_at mid d (Some m.0) m.1) ∙ ap Some (sym (f.2 ∙ (ap one_run m.2 ∙ halted_seen_run m.0 (met_held g all mid l d m.0 m.1).asks))))
          ∙ ap (map halted) (met_seen g all mid l)

      same_lead : lead_by complete new ≡ Leads complete
      same_lead =
          let s = u.stay 0 (inside mid 0 (Some first_there.0) first_there.1) in
          let m = from 0 s.0 s.1 in
          let r : RunView = m.0 in
          let even : IsEven r.token.view.own.arrivals = (met_held g all mid l 0 r m.1).is.between.even (runs 0 r m.1) in
          lead_at complete new s.0 s.1 ∙ (ap (lead_of complete) m.2 ∙ ap (λ (b : Bool). if b then Rests else Leads complete) (odd_next r.token.view.own.arrivals even))

  pub halted_spends : g.heap.config.pools ≤ 2048 → spare_of g ≤ spare_of halted_view + 67108864
  halted_spends pools =
      let s = u.stay 0 (inside mid 0 (Some first_there.0) first_there.1) in
      let m = from 0 s.0 s.1 in
      let less = halted_last g.heap.config g.runs mid new l (let i = inside mid 0 (Some first_there.0) first_there.1 in let same = l.count in omega (arith, i, same)) pools
      (λ d r there. (runs d r there, (met_held g all mid l d r there).is.between.even (runs d r there))) s.0 s.1 m.0 m.1 m.2 in
      omega (arith, less)

-- the run at a place made a step, while all run
module _ (g : GatheredView) (all : IsGathered g) (mid : List (Option RunView)) (at : ℕ) (l : Leveled g.runs mid) (run : (d : ℕ) (r : RunView) → HasRun mid d r → r.left ≡ None) (new : List (Option RunView)) (stepped : Stepped) (p : StepsAt g.heap mid new at stepped)
    (running : p.run.left ≡ None) (goes_on : p.run.ended ≡ false) where
  abbrev before : IsHeld (record g { runs = mid }) at p.run
  before = met_held g all mid l at p.run p.becomes.was

  keeps : KeepsRun p.run p.made
  keeps = calm_keeps g.heap p.run p.made p.answer p.calm

  made_step : InStep new
  made_step = made_in_step g.heap mid new at p.run p.made p.becomes run (keeps.left ∙ running)

  module _ (same : p.made.token.view.own.number ≡ p.run.token.view.own.number) where
    made_held : IsHeld (record g { runs = mid }) at p.made
    made_held = record {
      is = p.becomes.is;
      here = p.becomes.here;
      number = same ∙ before.number;
      listed = keeps.supply ∙ before.listed;
      collected = keeps.collected before.collected;
      walk = λ first. let w = before.walk first in record {
        armed = ap (λ (q : Progress). q.armed) keeps.progress ∙ w.armed;
        unswept = ap (λ (q : Progress). q.unswept) keeps.progress ∙ w.unswept;
        on = λ kind e. absurd (let none : ◌≡◌ {A = Option Kind} None (Some kind) = sym (keeps.left ∙ running) ∙ e in cc);
      };
      asks = calm_asks g.heap p.run p.made before.listed running before.asks p.answer p.calm;
      serves = calm_serves g.heap g.complete at p.run p.made stepped before.listed running goes_on p.becomes.here p.becomes.is p.came before.serves p.answer p.calm;
    }

    made_tied : AllTied g.complete new
    made_tied = running_tied g.complete new (λ d q is. ⊎_elim
        (λ (mine : (d ≡ at) × (q ≡ p.made)). ap (λ (x : RunView). x.left) mine.1 ∙ (keeps.left ∙ running))
        (λ (other : (d ≢ at) × HasRun mid d q). run d q other.1)
        (becomes_stood g.heap mid new at p.run p.made p.becomes d q is))

    abbrev pub stepped_view : GatheredView
    stepped_view = record g { runs = new }

    pub stepped_all : IsGathered stepped_view
    stepped_all = after_all g all mid l at p.run p.made new p.becomes made_held made_step keeps.commands made_tied

    made_there : HasRun new at p.made
    made_there = there g all mid l at p.run p.made new p.becomes made_held made_step

    made_runs : p.made.token.view.seen.stage ≡ In Run
    made_runs = subst (λ (o : Option Kind). StandsAt o p.made.token.view.seen.stage) (keeps.left ∙ running) p.becomes.is.between.stands

    -- what is so of the queue behind its front is so in each history that they may share
    pub unqueued : length (domain_at (state_of g.heap.config p.made.token.view.seen.front) p.made.token.view.own.number).queue ≡ 0 → Unqueued (sizes_in g.heap.config) (MayShare stepped_view) at
    unqueued none h ms =
        let t = ms.trails at p.made made_there in
        let d : ℕ = p.made.token.view.own.number in
        let here : (domain_at (state_of g.heap.config h) d).queue ≡ (domain_at (state_of g.heap.config p.made.token.view.seen.front) d).queue = queue_of_front (opening (sizes_in g.heap.config)) d h p.made.token.view.seen.front t.begins (t.calls made_runs) in
        subst (λ (n : ℕ). (domain_at (state_of g.heap.config h) n).queue ≡ []) made_held.number (empty_list _ (ap length here ∙ none))

    lead_same : lead_by g.complete new ≡ lead_by g.complete g.runs
    lead_same = dite (ℕ_discrete at 0)
        (λ first.
        let old = sym (met_lead g all mid l) ∙ lead_at g.complete mid p.run (subst (λ (n : ℕ). HasRun mid n p.run) first p.becomes.was) in
        lead_at g.complete new p.made (subst (λ (n : ℕ). HasRun new n p.made) first made_there) ∙ (ap (lead_in g.complete p.made.token.view.own.arrivals) (keeps.left ∙ running) ∙ sym (old ∙ ap (lead_in g.complete p.run.token.view.own.arrivals) running)))
        (λ away.
        let f = (met_all g all mid l).filled 0 (let w = within g all mid l at p.run p.made new p.becomes made_held made_step in omega (arith, w)) in
        lead_at g.complete new f.0 (others g all mid l at p.run p.made new p.becomes made_held made_step 0 (λ e. away (sym e)) ∙ f.1) ∙ (sym (lead_at g.complete mid f.0 f.1) ∙ met_lead g all mid l))

    pub stepped_tells : TurnedBy (sizes_in g.heap.config) (MayShare stepped_view) at p.run p.made stepped → Turned (MayShare g) (MayShare stepped_view) (seen_in g) (seen_in stepped_view) at stepped
    stepped_tells t = record {
      run = one_run p.run;
      was = was_seen g all mid l at p.run p.made new p.becomes made_held made_step;
      becomes = one_run p.made;
      own = t.own;
      on = after_shares g all mid l at p.run p.made new p.becomes made_held made_step t.own t.steps;
      tells = t.tells;
      view = λ i. record { sizes = sizes_in g.heap.config; runs = after_runs g all mid l at p.run p.made new p.becomes made_held made_step i; lead = lead_same i; complete = g.complete };
    }

    pub stepped_spares : spare_of g ≤ spare_of stepped_view
    stepped_spares =
        let some : 0 < length g.runs = let w = within g all mid l at p.run p.made new p.becomes made_held made_step in let same = l.count in omega (arith, w, same) in
        let before = met_last g.heap.config g.runs mid l some in
        let f = met_all_first some in
        let was = last_at g.heap.config mid f.0 f.1 in
        let runs_on : (r : RunView) → r.left ≡ None → last_of g.heap.config r ≡ r.token.view.own.arrivals + 1 = λ r none. ap (λ (o : Option Kind). last_arrival (g.heap.config.pools * 1024) r.token.view.own.arrivals o r.token.view.seen.share.progress r.token.view.seen.share.unmarked) none in
        let first = runs_on f.0 (run 0 f.0 f.1) in
        dite (ℕ_discrete at 0)
        (λ (e : at ≡ 0).
        let now = last_at g.heap.config new p.made (subst (λ (n : ℕ). HasRun new n p.made) e made_there) in
        let on = runs_on p.made (keeps.left ∙ running) in
        let same : f.0.token.view.own.arrivals ≡ p.run.token.view.own.arrivals = ap (λ (r : RunView). r.token.view.own.arrivals) (one_there mid 0 f.0 p.run f.1 (subst (λ (n : ℕ). HasRun mid n p.run) e p.becomes.was)) in
        let kept = keeps.arrivals in
        omega (arith, before, was, first, now, on, same, kept))
        (λ (away : at ≢ 0).
        let now = last_at g.heap.config new f.0 (others g all mid l at p.run p.made new p.becomes made_held made_step 0 (λ e. away (sym e)) ∙ f.1) in
        omega (arith, before, was, now))
      where
        met_all_first : 0 < length g.runs → (r : RunView) × HasRun mid 0 r
        met_all_first some = l.stay 0 some

-- where a meeting needs room, there is still room
pub keeps_room : {A : Type 0} (old new : ℕ) (here now : List A) (before after : ℕ) → (here ≡ []) × (old < before) → new ≡ old → now ≡ [] → after ≡ before → (now ≡ []) × (new < after)
keeps_room old new here now before after room same empty kept = (empty, (let some = room.1 in omega (arith, same, some, kept)))

-- of those that have arrived one that has done so least often has done so no more often than those that run
pub gone_least : (g : GatheredView) → IsGathered g → (at : ℕ) → GoneAt g.runs at → ((d : ℕ) → d < length g.runs → GoneAt g.runs d → IsSooner g.runs at d) → (d : ℕ) → IsSooner g.runs at d
gone_least g all at gone sooner d r s here there = by s.left refl
  where
    by : (o : Option Kind) → s.left ≡ o → r.token.view.own.arrivals ≤ s.token.view.own.arrivals
    by None is = all.in_step.behind d at s r there here is (gone r here)
    by (Some kind) is = sooner d (inside g.runs d (Some s) there) (λ q other none. absurd (let same = one_there g.runs d q s other there in let clash : ◌≡◌ {A = Option Kind} None (Some kind) = sym none ∙ (ap (λ (x : RunView). x.left) same ∙ is) in cc)) r s here there

-- it may arrive once more
pub gone_few : (g : GatheredView) → IsGathered g → (at : ℕ) → ((d : ℕ) → IsSooner g.runs at d) → 0 < spare_of g → (r : RunView) → HasRun g.runs at r → r.token.view.own.arrivals < 2 ^ 60
gone_few g all at least spare r there =
    let f = all.filled 0 (let i = inside g.runs at (Some r) there in omega (arith, i)) in
    let sooner = least 0 r f.0 there f.1 in
    let first = last_at g.heap.config g.runs f.0 f.1 in
    let high : f.0.token.view.own.arrivals ≤ last_of g.heap.config f.0 = last_high (g.heap.config.pools * 1024) f.0.token.view.own.arrivals f.0.left f.0.token.view.seen.share.progress f.0.token.view.seen.share.unmarked in
    omega (arith, spare, sooner, first, high)

-- and domain 0 may
pub first_few : (g : GatheredView) → 0 < spare_of g → (r : RunView) → HasRun g.runs 0 r → r.token.view.own.arrivals < 2 ^ 60
first_few g spare r there =
    let first = last_at g.heap.config g.runs r there in
    let high : r.token.view.own.arrivals ≤ last_of g.heap.config r = last_high (g.heap.config.pools * 1024) r.token.view.own.arrivals r.left r.token.view.seen.share.progress r.token.view.seen.share.unmarked in
    omega (arith, spare, first, high)

-- a domain that is seen to have arrived
pub gone_there : (g : GatheredView) → IsGathered g → SomeGone (seen_in g) → (d : ℕ) × (d < length g.runs) × GoneAt g.runs d
gone_there g all some = (some.0, subst (λ (n : ℕ). some.0 < n) (length-map g.runs run_at) some.1, gone_run g some.0 some.2)

-- a command registers one finaliser at most
one_at_most : (c : Command) → registrations_of c ≤ 1
one_at_most (Finalise item number dst) = omega arith
one_at_most (FinaliseLast item number) = omega arith
one_at_most _ = omega arith

few_registered : (cs : List Command) → registrations_in cs ≤ length cs
few_registered [] = omega arith
few_registered (c ∷ cs) = let one = one_at_most c in let rest = few_registered cs in omega (arith, one, rest)

-- so few finalisers wait
few_wait : (r : RunView) → r.supply ≡ Listed → IsRun r → length r.token.view.own.finalisers.queue.items < 4294967296
few_wait r listed is =
    let most : most_ran r.supply (registrations_in r.commands) r.spare ≡ registrations_in r.commands = ap (λ (s : Supply). most_ran s (registrations_in r.commands) r.spare) listed in
    let replied = is.replied in
    let within = is.within in
    let few = is.few in
    let registered = few_registered r.commands in
    omega (arith, most, replied, within, few, registered)

-- what is always true of the runs as they are seen
pub stands_of : (g : GatheredView) → IsGathered g → IsWithinLimits (sizes_in g.heap.config) → Stands (seen_in g)
stands_of g all limits = record {
  limits = limits;
  count = length-map g.runs run_at ∙ all.count;
  rests = λ x at back.
      let f = map_filled g.runs 0 x all.filled at in
      lead_at g.complete g.runs f.0 f.1 ∙ ap (lead_in g.complete f.0.token.view.own.arrivals) (runs_again f.0.left (sym (ap (λ (o : OneRun). o.runs) f.2) ∙ back));
  few = λ d x at.
      let f = map_filled g.runs d x all.filled at in
      subst (λ (n : ℕ). n < 4294967296) (sym (ap (λ (o : OneRun). o.waiting) f.2)) (few_wait f.0 (all.held d f.0 f.1).listed (all.held d f.0 f.1).is);
}
