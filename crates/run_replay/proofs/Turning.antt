-- A step of the run at a place, as a replay is told of it.
use Rattle.std.proofs.Common.{◌≡◌, ◌≤◌, ◌∙◌, ℕ, false, List, [], Option, None, length, sym, subst, ap}
use Rattle.model_core.specs.declared.entry.Entry.{Entry}
use Rattle.model_core.specs.Domains.{domain_at}
use Rattle.heap_rule.specs.Limits.{sizes_in}
use Rattle.heap_rule.specs.Rule.{state_of}
use Rattle.run_turns.specs.Runs.{RunView}
use Rattle.text_script.specs.declared.schedule.drive.together.Stepped.{Stepped}
use Rattle.text_script.specs.Schedule.Drive.Together.{AllHave, Has, Turned, Unqueued}
use Rattle.run_replay.specs.Gathered.{GatheredView, IsGathered, IsHeld, MayShare, one_run, run_at, seen_in}
use Rattle.run_replay.specs.Leveled.{Leveled}
use Rattle.run_replay.specs.Moves.{StepsAt}
use Rattle.run_replay.specs.Pace.{spare_of}
use Rattle.run_replay.proofs.Joining.{met_held, runs_met, stepped_all, stepped_spares, stepped_tells, unqueued}
use Rattle.run_replay.proofs.Places.{get_map}
use Rattle.run_replay.proofs.TurnLemmas.{TurnedBy, turned}

module _ (g : GatheredView) (all : IsGathered g) (mid : List (Option RunView)) (at : ℕ) (l : Leveled g.runs mid) (new : List (Option RunView)) (stepped : Stepped) (p : StepsAt g.heap mid new at stepped)
    (run : AllHave (λ x. x.runs) Rattle.std.proofs.Common.true (seen_in g)) (going : Has (λ x. x.ended) false (seen_in g) at) where
  running : p.run.left ≡ None
  running = runs_met g mid l run at p.run p.becomes.was

  goes_on : p.run.ended ≡ false
  goes_on = let m = l.more at p.run p.becomes.was in ap (λ (x : RunView). x.ended) m.2.is ∙ going (one_run m.0) (get_map run_at g.runs at (Rattle.std.proofs.Common.Some m.0) m.1)

  held : IsHeld (record g { runs = mid }) at p.run
  held = met_held g all mid l at p.run p.becomes.was

  by : (shares : List Entry → Type 0) → (length (domain_at (state_of g.heap.config p.made.token.view.seen.front) p.made.token.view.own.number).queue ≡ 0 → Unqueued (sizes_in g.heap.config) shares at) → TurnedBy (sizes_in g.heap.config) shares at p.run p.made stepped
  by shares none = turned g.heap shares at p.run p.made stepped (sym held.number) goes_on held.collected p.came p.once none p.answer held.listed p.calm

  number : p.made.token.view.own.number ≡ p.run.token.view.own.number
  number = (by (λ h. ⊥) (λ _ h ms. absurd ms)).number

  pub turned_all : IsGathered (record g { runs = new })
  turned_all = stepped_all g all mid at l (runs_met g mid l run) new stepped p running goes_on number

  pub turned_tells : Turned (MayShare g) (MayShare (record g { runs = new })) (seen_in g) (seen_in (record g { runs = new })) at stepped
  turned_tells = stepped_tells g all mid at l (runs_met g mid l run) new stepped p running goes_on number (by (MayShare (record g { runs = new })) (unqueued g all mid at l (runs_met g mid l run) new stepped p running goes_on number))

  pub turned_spares : spare_of g ≤ spare_of (record g { runs = new })
  turned_spares = stepped_spares g all mid at l (runs_met g mid l run) new stepped p running goes_on number
