-- The turn in which a wish that was left over is found.
use Rattle.std.proofs.Common.{◌≡◌, ◌∙◌, ◌⊎◌, ◌+◌, ◌*◌, ◌<◌, inl, inr, ⊎_elim, Option, Some, None, length, arith, refl, sym, ap, subst}
use Rattle.model_core.specs.Domains.{IsWithinLimits}
use Rattle.heap_rule.specs.declared.phase.Kind.{Kind}
use Rattle.heap_rule.specs.declared.phase.Kind.TheVariants.{Run}
use Rattle.heap_rule.specs.declared.phase.Note.TheVariants.{Want}
use Rattle.heap_rule.specs.declared.view.Own.{Own}
use Rattle.heap_rule.specs.Limits.{sizes_in}
use Rattle.heap_rule.specs.Phases.{IsOdd}
use Rattle.heap_rule.specs.Token.{SharedHeap, IsIn}
use Rattle.gc_pause.specs.declared.phases.decider.Decider.TheVariants.{Wishes as ByWishes}
use Rattle.run_turns.specs.declared.turned.Turned.{Turned}
use Rattle.run_turns.specs.declared.turned.Turned.TheVariants.{Did, Waiting as WaitsFor, Hungry, Held, Idle}
use Rattle.run_turns.specs.declared.turned.Turned.TheVariants.{Ended as Over}
use Rattle.run_turns.specs.Runs.{RunView, CalmAnswers, GoesBy, GoesOn, IsRun, Resumes, RunAnswers, SeesAnswer, Starts, Stops, Stretches, TurnAnswers, wanting}
use Rattle.run_turns.specs.Runs.{IsAnswered as RunIsAnswered}
use Rattle.run_turns.proofs.Looking.{looked_is_run}
use Rattle.run_turns.proofs.Adding.{turn_adds}
use Rattle.run_turns.proofs.OfSingly.Driven.{awaits_turn, open_handed}
use Rattle.run_turns.proofs.PauseLemmas.{even_next}
use Rattle.run_alone.specs.Lone.{IsLone, LooksFirst, Tells as Telling, Wants}
use Rattle.run_alone.proofs.Keeping.{Came, asks_none, came, lone_calm, wants_now}
use Rattle.run_alone.proofs.Keeping.Came.{Finalised, Asked, IsShort, Made}
use Rattle.run_alone.proofs.Paces.{begun_paced, last_odd, last_running, runs_paced}

none_some : (a : Kind) → ◌≡◌ {A = Option Kind} None (Some a) → ⊥
none_some a is = cc

module _ (h : SharedHeap) (r s : RunView) (limits : IsWithinLimits (sizes_in h.config)) (l : IsLone h r) (runs : r.left ≡ None) (unasked : r.asked ≡ None) (some : r.next < length r.commands) (here : IsIn s.token h) (is : IsRun s) (stretch : Stretches (sizes_in h.config) r s) (goes : GoesOn r s) where
  abbrev q : RunView
  q = wanting r 0

  tells : Telling h r s
  tells = record {
    answers = λ start command w. awaits_turn h start command r s w here stretch goes;
    ran = turn_adds (sizes_in h.config) r s (open_handed r.supply l.more) goes stretch;
  }

  -- it found a wish
  stops : Stops r s → LooksFirst h r s
  stops t = record {
    lone = record { here = here; is = is; alone = l.alone; more = ap (λ (v : RunView). v.supply) t.run ∙ l.more; asks = asks_none s asked; unqueued = λ none. absurd (none_some Run (sym none ∙ left)) };
    commands = ap (λ (v : RunView). v.commands) t.run;
    tells = tells;
    spends =
        let before = last_running h.config r runs in
        let now = last_odd (h.config.pools * 1024) s.token.view.own.arrivals s.left Run s.token.view.seen.share.progress s.token.view.seen.share.unmarked left odd in
        let more = arrivals in
        let pools = limits.pools in
        omega (arith, before, now, more, pools);
    paced = begun_paced h.config s limits.pools left odd;
    unasked = λ gone. asked;
    rests = λ same. inr asked;
  }
    where
      asked : s.asked ≡ None
      asked = ap (λ (v : RunView). v.asked) t.run ∙ unasked

      left : s.left ≡ Some Run
      left = ap (λ (v : RunView). v.left) t.run

      arrivals : s.token.view.own.arrivals ≡ r.token.view.own.arrivals + 1
      arrivals = ap (λ (v : RunView). v.token.view.own.arrivals) t.run

      odd : IsOdd s.token.view.own.arrivals
      odd = subst IsOdd (sym arrivals) (even_next r.token.view.own.arrivals (l.is.between.even runs))

  -- or went on
  looked : IsLone h q
  looked = record { here = l.here; is = looked_is_run h r q.token (Want 0) l.is l.here l.here refl; alone = l.alone; more = l.more; asks = record { before = l.asks.before; arrived = l.asks.arrived; forgotten = l.asks.forgotten }; unqueued = l.unqueued }

  calm : (a : Turned) → CalmAnswers h q s a → LooksFirst h r s
  calm a c = record {
    lone = lone_calm h q s a looked runs some here is c;
    commands = goes.commands;
    tells = tells;
    spends =
        let before = last_running h.config r runs in
        let now = last_running h.config s (back step) in
        let same = arrivals step in
        omega (arith, before, now, same);
    paced = runs_paced h.config s (back step);
    unasked = λ gone. absurd (gone (back step));
    rests = λ same. rests same step;
  }
    where
      step : Came h q s
      step = came h q s looked.is l.more runs some a c

      rests : s.next ≡ r.next → Came h q s → Wants s ⊎ (s.asked ≡ None)
      rests same (Finalised u f first at) = inr (u.asked ∙ unasked)
      rests same (Asked d at needs empty k) = inl (wants_now s r.token.view.own.arrivals k.4 (ap (λ (o : Own). o.arrivals) k.5))
      rests same (IsShort before empty k) = inl (wants_now s r.token.view.own.arrivals k.4 k.5)
      rests same (Made k) = absurd (let more = k.2 in omega (arith, more, same))

      back : Came h q s → s.left ≡ None
      back (Finalised u f first at) = u.left
      back (Asked d at needs empty k) = k.0 ∙ runs
      back (IsShort before empty k) = k.0 ∙ runs
      back (Made k) = k.0 ∙ runs

      arrivals : Came h q s → s.token.view.own.arrivals ≡ r.token.view.own.arrivals
      arrivals (Finalised u f first at) = u.arrivals
      arrivals (Asked d at needs empty k) = ap (λ (o : Own). o.arrivals) k.5
      arrivals (IsShort before empty k) = k.5
      arrivals (Made k) = k.5

  run_looks : (a : Turned) → RunAnswers h r s a → LooksFirst h r s
  run_looks Did says = ⊎_elim stops (calm Did) says
  run_looks (WaitsFor n) says = absurd says
  run_looks Hungry says = calm Hungry says
  run_looks (Held section) says = calm (Held section) says
  run_looks (Idle n) says = calm (Idle n) says
  run_looks Over says = calm Over says

  from : (a : Turned) → ((start : RunView) × Starts h r start × RunAnswers h start s a) → LooksFirst h r s
  from a t = ⊎_elim
      (λ (u : (r.left ≡ None) × (t.0 ≡ r)). run_looks a (subst (λ (v : RunView). RunAnswers h v s a) u.1 t.2))
      (λ (u : Resumes h r t.0). absurd (none_some u.arrived.0 (sym runs ∙ u.arrived.1)))
      t.1

  pub looks_first : (a : Turned) → TurnAnswers h r s a → LooksFirst h r s
  looks_first Did says = ⊎_elim
      (λ (g : GoesBy h ByWishes r s). absurd (none_some g.last (sym runs ∙ g.arrived)))
      (⊎_elim
      (λ (a : RunIsAnswered h r s). absurd (none_some a.last (sym runs ∙ a.arrived)))
      (⊎_elim
      (λ (a : SeesAnswer h r s). absurd (none_some a.last (sym runs ∙ a.arrived)))
      (λ t. from Did t)))
      says
  looks_first (WaitsFor n) w = absurd (none_some w.arrived.0 (sym runs ∙ w.arrived.1))
  looks_first Hungry t = from Hungry t
  looks_first (Held section) t = from (Held section) t
  looks_first (Idle n) t = from (Idle n) t
  looks_first Over t = from Over t
