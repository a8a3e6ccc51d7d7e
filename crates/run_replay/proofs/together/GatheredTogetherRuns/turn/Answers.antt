use Rattle.std.proofs.Common.{◌∙◌, ◌<◌, ◌≤◌, true, false, List, Option, Some, ap, length, subst, sym}
use Rattle.std.specs.Prelude.{vec_capacity}
use Rattle.std.proofs.lemmas.List.{with_items_is}
use Rattle.run_turns.specs.Runs.{RunView}
use Rattle.text_script.specs.Schedule.Drive.Together.{AllHave, Has, Turned}
use Rattle.run_replay.specs.Asking.{AskFew}
use Rattle.run_replay.specs.Gathered.{GatheredView, HasRun, IsGathered, MayShare, one_run, run_at, seen_in}
use Rattle.run_replay.specs.Leveled.{AllHere}
use Rattle.run_replay.specs.Moves.{MetThen, StepsAt}
use Rattle.run_replay.specs.Pace.{spare_of}
use Rattle.run_replay.proofs.Joining.{all_few, all_here, keeps_room, runs_run}
use Rattle.run_replay.proofs.Places.{get_map}
use Rattle.run_replay.proofs.Turning.{turned_all, turned_spares, turned_tells}
use Rattle.run_replay.proofs.together.GatheredTogetherRuns.turn.Goals as goal

pub step_at-requires-clause-here : goal.step_at-requires-clause-here
step_at-requires-clause-here c =
    let g0 : GatheredView = record { heap = c.self.inside.heap; runs = c.self.inside.runs.items; complete = c.self.inside.complete } in
    subst (AllHere c.self.inside.heap) (sym c.as_mut_slice.ensures.value) (all_here g0 c.self.invariant.0)

pub step_at-requires-clause-running : goal.step_at-requires-clause-running
step_at-requires-clause-running c = λ r there.
    let run = subst (λ (v : GatheredView). AllHave (λ x. x.runs) true (seen_in v)) (sym c.self.view_is) c.requires.run in
    let g0 : GatheredView = record { heap = c.self.inside.heap; runs = c.self.inside.runs.items; complete = c.self.inside.complete } in
    runs_run g0 run c.args.at r (subst (λ (rs : List (Option RunView)). HasRun rs c.args.at r) c.as_mut_slice.ensures.value there)

pub step_at-requires-clause-goes_on : goal.step_at-requires-clause-goes_on
step_at-requires-clause-goes_on c = λ r there.
    let going = subst (λ (v : GatheredView). Has (λ x. x.ended) false (seen_in v) c.args.at) (sym c.self.view_is) c.requires.goes_on in
    going (one_run r) (get_map run_at c.self.inside.runs.items c.args.at (Some r) (subst (λ (rs : List (Option RunView)). HasRun rs c.args.at r) c.as_mut_slice.ensures.value there))

pub step_at-requires-clause-few : goal.step_at-requires-clause-few
step_at-requires-clause-few c =
    let g0 : GatheredView = record { heap = c.self.inside.heap; runs = c.self.inside.runs.items; complete = c.self.inside.complete } in
    subst (AskFew c.self.inside.heap) (sym c.as_mut_slice.ensures.value) (all_few g0 c.self.invariant.0)

pub step_at-requires-clause-empty : goal.step_at-requires-clause-empty
step_at-requires-clause-empty c = c.self.invariant.1.0

pub step_at-requires-clause-fits : goal.step_at-requires-clause-fits
step_at-requires-clause-fits c = subst (λ n. n < vec_capacity c.self.inside.meeting) (ap length (sym c.as_mut_slice.ensures.value)) c.self.invariant.1.1

pub invariant_of-self : goal.invariant_of-self
invariant_of-self c =
    let g0 : GatheredView = record { heap = c.self.inside.heap; runs = c.self.inside.runs.items; complete = c.self.inside.complete } in
    let new = c.step_at.new.runs in
    let run = subst (λ (v : GatheredView). AllHave (λ x. x.runs) true (seen_in v)) (sym c.self.view_is) c.requires.run in
    let going = subst (λ (v : GatheredView). Has (λ x. x.ended) false (seen_in v) c.args.at) (sym c.self.view_is) c.requires.goes_on in
    let m = subst (λ (rs : List (Option RunView)). MetThen rs (λ pause mid. StepsAt c.self.inside.heap mid new c.args.at c.step_at.result)) c.as_mut_slice.ensures.value c.step_at.ensures.steps in
    let same = with_items_is c.self.inside.runs new (c.step_at.auto.runs ∙ (ap length c.as_mut_slice.ensures.value ∙ sym c.self.inside.runs.ok.0)) in
    let all = subst (λ (rs : List (Option RunView)). IsGathered (record g0 { runs = rs })) (sym same) (turned_all g0 c.self.invariant.0 m.mid c.args.at m.leveled new c.step_at.result m.moved run going) in
    (all, keeps_room _ _ _ _ _ _ c.self.invariant.1 (ap length same ∙ (c.step_at.auto.runs ∙ ap length c.as_mut_slice.ensures.value)) c.step_at.ensures.room.0 c.step_at.ensures.room.1)

pub returns : goal.returns
returns c =
    let g0 : GatheredView = record { heap = c.self.inside.heap; runs = c.self.inside.runs.items; complete = c.self.inside.complete } in
    let new = c.step_at.new.runs in
    let run = subst (λ (v : GatheredView). AllHave (λ x. x.runs) true (seen_in v)) (sym c.self.view_is) c.requires.run in
    let going = subst (λ (v : GatheredView). Has (λ x. x.ended) false (seen_in v) c.args.at) (sym c.self.view_is) c.requires.goes_on in
    let m = subst (λ (rs : List (Option RunView)). MetThen rs (λ pause mid. StepsAt c.self.inside.heap mid new c.args.at c.step_at.result)) c.as_mut_slice.ensures.value c.step_at.ensures.steps in
    let same = with_items_is c.self.inside.runs new (c.step_at.auto.runs ∙ (ap length c.as_mut_slice.ensures.value ∙ sym c.self.inside.runs.ok.0)) in
    let tells = turned_tells g0 c.self.invariant.0 m.mid c.args.at m.leveled new c.step_at.result m.moved run going in
    let spares = turned_spares g0 c.self.invariant.0 m.mid c.args.at m.leveled new c.step_at.result m.moved run going in
    let now : GatheredView = record g0 { runs = (Rattle.std.specs.Vec.with_items c.self.inside.runs new).items } in
    let here = subst (λ (rs : List (Option RunView)). Turned (MayShare g0) (MayShare (record g0 { runs = rs })) (seen_in g0) (seen_in (record g0 { runs = rs })) c.args.at c.step_at.result) (sym same) tells in
    let less = subst (λ (rs : List (Option RunView)). spare_of g0 ≤ spare_of (record g0 { runs = rs })) (sym same) spares in
    record {
      turned = subst (λ (v : GatheredView). Turned (MayShare v) (MayShare now) (seen_in v) (seen_in now) c.args.at c.step_at.result) c.self.view_is here;
      spares = subst (λ (v : GatheredView). spare_of v ≤ spare_of now) c.self.view_is less;
    }
