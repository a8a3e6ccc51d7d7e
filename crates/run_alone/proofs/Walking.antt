-- What a step in a pause leaves of the run of a heap's only domain.
use Rattle.std.proofs.Common.{true≢false, ◌≡◌, ◌≢◌, ◌∙◌, ◌&&◌, ◌||◌, ◌==◌, ◌+◌, ◌<◌, inl, inr, ⊎_elim, ℕ, Bool, true, false, if◌then◌else◌, Option, Some, None, slice_get, arith, refl, sym, ap, subst, lt-ltb, List}
use Rattle.std.proofs.lemmas.Bool.{eq-eqb}
use Rattle.model_core.specs.declared.entry.Entry.{Entry}
use Rattle.heap_rule.specs.declared.config.Config.{Config}
use Rattle.heap_rule.specs.declared.phase.Kind.{Kind}
use Rattle.heap_rule.specs.declared.phase.Kind.TheVariants.{Run, Promote, Reset, Roots, Mark, Rounds, Decide, Queued, Clean, Lasts, Sweep, Answer}
use Rattle.heap_rule.specs.declared.phase.Progress.{Progress}
use Rattle.heap_rule.specs.declared.view.DomainView.{DomainView}
use Rattle.heap_rule.specs.Phases.{IsEven, IsOdd}
use Rattle.heap_rule.specs.Token.{SharedHeap, IsIn}
use Rattle.gc_pause.specs.declared.phases.decider.Decider.{Decider}
use Rattle.gc_pause.specs.declared.phases.decider.Decider.TheVariants.{Caller}
use Rattle.gc_pause.specs.Phases.Leading.{Findings, LeadsOn, next_kind}
use Rattle.run_turns.specs.Pausing.{LeavesEven, LeavesOdd, blocks_left}
use Rattle.run_turns.specs.Runs.{GoesBy, IsRun, Resumes, RunView, SeesAnswer, is_asked, lets_refuse, may_use_up, run_seeing, served_since}
use Rattle.run_turns.specs.Runs.{IsAnswered as RunIsAnswered}
use Rattle.run_turns.proofs.LeavingLemmas.{passes_leaves}
use Rattle.run_turns.proofs.PauseLemmas.{not_both, odd_next}
use Rattle.run_alone.specs.Lone.{AsksOnce, IsBehindAnswer, IsLone, IsPausing, IsServed, PassesAlone, Wants, decides}
use Rattle.run_alone.specs.Paces.{steps_left}
use Rattle.run_alone.proofs.Keeping.{asks_none, wants_none}
use Rattle.run_turns.proofs.StretchLemmas.{passed_stretches}
use Rattle.run_turns.specs.declared.supply.Supply.TheVariants.{Open}
use Rattle.run_turns.specs.declared.turned.Turned.TheVariants.{Did}
use Rattle.run_alone.specs.Idling.{Idles}
use Rattle.run_alone.proofs.Idling.{idles_still}
use Rattle.run_alone.proofs.Telling.{goes_past, seen_goes, seen_stretches, tells_on, tells_passed, tells_seen}
use Rattle.run_alone.proofs.Paces.{nearer, no_later, went}

-- a pause with a complete collection ends behind the answer alone
on_reset : (armed unswept : Bool) → (if armed then Mark else (if unswept then Sweep else Roots)) ≡ Run → Reset ≡ Answer
on_reset true unswept e = cc
on_reset false true e = cc
on_reset false false e = cc

on_mark : (b : Bool) → (if b then Rounds else Mark) ≡ Run → Mark ≡ Answer
on_mark true e = cc
on_mark false e = cc

on_rounds : (b cut : Bool) → (if b then (if cut then Clean else Decide) else Mark) ≡ Run → Rounds ≡ Answer
on_rounds true true e = cc
on_rounds true false e = cc
on_rounds false cut e = cc

on_queued : (b : Bool) → (if b then Clean else Mark) ≡ Run → Queued ≡ Answer
on_queued true e = cc
on_queued false e = cc

on_sweep : (unswept whole : Bool) → (if unswept then Roots else (if whole then Answer else Roots)) ≡ Run → Sweep ≡ Answer
on_sweep true whole e = cc
on_sweep false true e = cc
on_sweep false false e = cc

pub ends_behind : (k : Config) (last : Kind) (p : Progress) (f : Findings) → next_kind k (Caller true) last p f ≡ Run → last ≡ Answer
ends_behind k Run p f e = cc
ends_behind k Promote p f e = cc
ends_behind k Reset p f e = on_reset p.armed p.unswept e
ends_behind k Roots p f e = cc
ends_behind k Mark p f e = on_mark (f.changed == 0) e
ends_behind k Rounds p f e = on_rounds (f.changed == 0) p.cut e
ends_behind k Decide p f e = cc
ends_behind k Queued p f e = on_queued (f.changed == 0) e
ends_behind k Clean p f e = cc
ends_behind k Lasts p f e = cc
ends_behind k Sweep p f e = on_sweep p.unswept p.whole e
ends_behind k Answer p f e = refl

none_some : (a : Kind) → ◌≡◌ {A = Option Kind} None (Some a) → ⊥
none_some a is = cc

some_is : (a b : Kind) → ◌≡◌ {A = Option Kind} (Some a) (Some b) → a ≡ b
some_is a b is = cc

-- the only domain is domain 0
pub zeroth : (h : SharedHeap) (r : RunView) → IsLone h r → r.token.view.own.number ≡ 0
zeroth h r l =
    let one : r.token.config.domains ≡ 1 = ap (λ (k : Config). k.domains) l.here.1 ∙ l.alone in
    let inside = l.is.inside in
    omega (arith, one, inside)

-- a complete collection lets an allocation be refused, where the heap has one domain
lets : (k : Config) (blocks : ℕ) → k.domains ≡ 1 → lets_refuse k blocks ≡ true
lets k blocks one = let e : (k.domains == 1) ≡ true = eq-eqb k.domains 1 one in ap (λ (b : Bool). b || may_use_up k blocks) e

module _ (h : SharedHeap) (complete : Bool) (start r s : RunView) (i : IsPausing h complete start r) (gone : r.left ≢ None) (same : r.next ≡ start.next) (here : IsIn s.token h) (is : IsRun s) (p : PassesAlone h (decides complete) r s) where
  abbrev q : RunView
  q = run_seeing r p.history

  abbrev who : Decider
  who = decides complete

  abbrev x : DomainView
  x = q.token.view

  abbrev y : DomainView
  y = s.token.view

  first : x.own.number ≡ 0
  first = zeroth h r i.lone

  -- what it keeps, whatever it did
  record Kept : Type 0 where
    commands : s.commands ≡ r.commands
    supply : s.supply ≡ r.supply
    stays : s.next ≡ r.next → (s.asked ≡ r.asked) × (s.due ≡ r.due)
    asked : s.next ≢ r.next → is_asked r.asked ≡ true
    once : AsksOnce s
    wants : s.left ≡ None → Wants s → ⊥
    served : complete ≡ true → s.next ≡ r.next → IsBehindAnswer y.own.arrivals s.left → IsServed s

  -- where the next command is to be made as before
  asks_gone : (kind : Kind) → s.left ≡ Some kind → s.asked ≡ r.asked → y.own.arrivals ≡ x.own.arrivals + 1 → AsksOnce s
  asks_gone kind now asked arrivals = record {
    before = λ n at. let less = i.lone.asks.arrived gone n (sym asked ∙ at) in omega (arith, less, arrivals);
    arrived = λ left n at. let less = i.lone.asks.arrived gone n (sym asked ∙ at) in omega (arith, less, arrivals);
    forgotten = λ none. absurd (none_some kind (sym none ∙ now));
  }

  served_as : (s.commands ≡ r.commands) → (s.next ≡ r.next) → (s.due ≡ r.due) → (s.asked ≡ r.asked) → (s.collected ≡ r.collected) → IsServed r → IsServed s
  served_as commands next due asked collected v = record {
    answered = λ w. v.answered (record { next = (λ j. slice_get (sym commands j) (sym next j)) ∙ w.next; paid = sym due ∙ w.paid; wished = ap is_asked (sym asked) ∙ w.wished });
    counts = λ wished. collected ∙ v.counts (ap is_asked (sym asked) ∙ wished);
  }

  goes : GoesBy h who q s → Kept
  goes g = record {
    commands = ap (λ (u : RunView). u.commands) g.run;
    supply = ap (λ (u : RunView). u.supply) g.run;
    stays = λ _. (asked, due);
    asked = λ other. absurd (other (ap (λ (u : RunView). u.next) g.run));
    once = asks_gone g.kind left asked more;
    wants = λ none. absurd (none_some g.kind (sym none ∙ left));
    served = λ full _ at. on full (subst (IsBehindAnswer y.own.arrivals) left at);
  }
    where
      asked : s.asked ≡ r.asked
      asked = ap (λ (u : RunView). u.asked) g.run

      due : s.due ≡ r.due
      due = ap (λ (u : RunView). u.due) g.run

      left : s.left ≡ Some g.kind
      left = ap (λ (u : RunView). u.left) g.run

      more : y.own.arrivals ≡ x.own.arrivals + 1
      more = (passes_leaves who h.config x y g.last g.kind g.passes).arrivals

      as_before : IsServed r → IsServed s
      as_before v = served_as (ap (λ (u : RunView). u.commands) g.run) (ap (λ (u : RunView). u.next) g.run) due asked (ap (λ (u : RunView). u.collected) g.run) v

      begun : DomainView
      begun = g.passes.begun

      -- it has named that it runs
      names : complete ≡ true → IsOdd x.own.arrivals → LeavesOdd h.config who begun y g.last g.kind → g.kind ≡ Run → IsServed s
      names full odd o run = ⊎_elim
          (λ (l : (begun.own.number ≡ 0) × LeadsOn h.config who begun y g.last g.kind).
          let chosen : g.kind ≡ next_kind h.config (Caller true) g.last begun.seen.share.progress l.1.findings = l.1.chosen ∙ ap (λ (b : Bool). next_kind h.config (decides b) g.last begun.seen.share.progress l.1.findings) full in
          let answer : g.last ≡ Answer = ends_behind h.config g.last begun.seen.share.progress l.1.findings (sym chosen ∙ run) in
          as_before (i.served full same (inr (inl (g.arrived ∙ ap Some answer, odd)))))
          (λ f. absurd (f.0 (ap (λ (v : DomainView). v.own.number) g.passes.passed.view ∙ first)))
          o

      on : complete ≡ true → IsBehindAnswer y.own.arrivals (Some g.kind) → IsServed s
      on full (inl none) = absurd (none_some g.kind (sym none))
      on full (inr (inl at)) = ⊎_elim
          (λ e. let none : ⊥ = subst (λ (k : Kind). LeavesEven h.config k begun y) (some_is g.kind Answer at.0) e.4 in absurd none)
          (λ o. absurd (not_both y.own.arrivals (subst IsEven (sym more) (odd_next x.own.arrivals o.0)) at.1))
          g.passes.share
      on full (inr (inr at)) = ⊎_elim
          (λ e. let none : ⊥ = subst (λ (k : Kind). LeavesEven h.config k begun y) (some_is g.kind Run at.0) e.4 in absurd none)
          (λ o. names full o.0 o.2 (some_is g.kind Run at.0))
          g.passes.share

  told : RunIsAnswered h q s → Kept
  told a = record {
    commands = ap (λ (u : RunView). u.commands) a.run;
    supply = ap (λ (u : RunView). u.supply) a.run;
    stays = λ stay. absurd (let more : s.next ≡ r.next + 1 = ap (λ (u : RunView). u.next) a.run in omega (arith, stay, more));
    asked = λ _. a.waited.wished;
    once = asks_none s (ap (λ (u : RunView). u.asked) a.run);
    wants = λ none. wants_none s (ap (λ (u : RunView). u.asked) a.run);
    served = λ full stay. absurd (let more : s.next ≡ r.next + 1 = ap (λ (u : RunView). u.next) a.run in omega (arith, stay, more));
  }

  sees : SeesAnswer h q s → Kept
  sees a = record {
    commands = ap (λ (u : RunView). u.commands) a.run;
    supply = ap (λ (u : RunView). u.supply) a.run;
    stays = λ _. (asked, ap (λ (u : RunView). u.due) a.run);
    asked = λ other. absurd (other (ap (λ (u : RunView). u.next) a.run));
    once = asks_gone Answer (ap (λ (u : RunView). u.left) a.run) asked (ap (λ (v : DomainView). v.own.arrivals) a.gives.view ∙ ap (λ (v : DomainView). v.own.arrivals + 1) a.gives.comes.passed.view);
    wants = λ none. absurd (none_some Answer (sym none ∙ ap (λ (u : RunView). u.left) a.run));
    served = λ full _ at. record {
      answered = λ w. a.none (record { next = (λ j. slice_get (ap (λ (u : RunView). u.commands) (sym a.run) j) (ap (λ (u : RunView). u.next) (sym a.run) j)) ∙ w.next; paid = ap (λ (u : RunView). u.due) (sym a.run) ∙ w.paid; wished = ap is_asked (sym asked) ∙ w.wished });
      counts = λ wished. ap (λ (u : RunView). u.collected) a.run ∙ (λ j. (ap is_asked (sym asked) ∙ wished) j && lets h.config (blocks_left h.config y) i.lone.alone j);
    };
  }
    where
      asked : s.asked ≡ r.asked
      asked = ap (λ (u : RunView). u.asked) a.run

  back : Resumes h q s → Kept
  back a = record {
    commands = ap (λ (u : RunView). u.commands) a.run;
    supply = ap (λ (u : RunView). u.supply) a.run;
    stays = λ _. (asked, ap (λ (u : RunView). u.due) a.run);
    asked = λ other. absurd (other (ap (λ (u : RunView). u.next) a.run));
    once = record {
      before = λ n at. let less = i.lone.asks.before n (sym asked ∙ at) in omega (arith, less, arrivals);
      arrived = λ left. absurd (left (ap (λ (u : RunView). u.left) a.run));
      forgotten = λ none served. a.collected.forgotten;
    };
    wants = λ none w. by r.asked refl w;
    served = λ full _ at. served_as (ap (λ (u : RunView). u.commands) a.run) (ap (λ (u : RunView). u.next) a.run) (ap (λ (u : RunView). u.due) a.run) asked (ap (λ (u : RunView). u.collected) a.run)
        (i.served full same (inr (inr (a.arrived.1 ∙ ap Some (sym (a.arrived.2.0 first)), a.even))));
  }
    where
      asked : s.asked ≡ r.asked
      asked = ap (λ (u : RunView). u.asked) a.run

      arrivals : y.own.arrivals ≡ x.own.arrivals
      arrivals = ap (λ (v : DomainView). v.own.arrivals) a.passed.view

      -- a pause came for what it had asked
      by : (o : Option ℕ) → r.asked ≡ o → Wants s → ⊥
      by None none w = wants_none s (asked ∙ none) w
      by (Some n) at w =
          let less = i.lone.asks.arrived gone n at in
          true≢false (sym (lt-ltb n y.own.arrivals (omega (arith, less, arrivals))) ∙ (ap (λ (o : Option ℕ). served_since o y.own.arrivals) (sym (asked ∙ at)) ∙ w.1))

  kept : Kept
  kept = ⊎_elim goes (⊎_elim told (⊎_elim sees back)) p.passes

  -- nothing was to be made, and nothing is
  idle_on : (front : List Entry) → s.supply ≡ Open → Idles h front r → Idles h front s
  idle_on front more idle =
      let seen : Idles h front q = idles_still h front r q idle i.lone.here (seen_stretches h r p.history p.begins) (seen_goes r p.history p.begins) p.met i.lone.more in
      idles_still h front q s seen here (passed_stretches who h q s Did i.lone.here p.passes) (goes_past who h q s p.met i.lone.more p.passes) is more

  -- the pause goes on
  pub goes_on : IsPausing h complete start s
  goes_on =
      let v = kept in record {
        lone = record { here = here; is = is; alone = i.lone.alone; more = v.supply ∙ i.lone.more; asks = v.once; unqueued = λ none w. absurd (v.wants none w) };
        commands = v.commands ∙ i.commands;
        tells = tells_on h start r s i.commands same i.tells (tells_on h r q s refl refl (tells_seen h r p.history i.lone.here p.begins) (tells_passed who h q s i.lone.here here p.met i.lone.more p.passes));
        idles = λ front idle. idle_on front (v.supply ∙ i.lone.more) (i.idles front idle);
        within = let less = no_later h who q s p.met first p.passes in let before = i.within in omega (arith, less, before);
        more = let before = i.more in ⊎_elim (λ (b : (s.left ≡ None) × (y.own.arrivals ≡ x.own.arrivals)). let e = b.1 in omega (arith, before, e)) (λ (g : (s.left ≢ None) × (y.own.arrivals ≡ x.own.arrivals + 1)). let e = g.1 in omega (arith, before, e)) (went h who q s p.passes);
        stays = λ next. (v.stays (next ∙ sym same)).0 ∙ i.stays same;
        asked = λ other. ap is_asked (sym (i.stays same)) ∙ v.asked (λ stay. other (stay ∙ same));
        owes = λ next. (v.stays (next ∙ sym same)).1 ∙ i.owes same;
        served = λ full next at. v.served full (next ∙ sym same) at;
      }

  -- and one step fewer is left of it
  pub comes_nearer : steps_left h.config s < steps_left h.config r
  comes_nearer = nearer h who q s p.met first gone p.passes
