use Rattle.std.proofs.Common.{◌∙◌, ◌<◌, ◌≤◌, ℕ, List, Option, ap, arith, length, subst, sym}
use Rattle.std.specs.Prelude.{vec_capacity}
use Rattle.std.proofs.lemmas.List.{with_items_is}
use Rattle.run_turns.specs.Runs.{RunView}
use Rattle.text_script.specs.Schedule.Drive.Together.{Passed, SomeGone}
use Rattle.run_replay.specs.Gathered.{GatheredView, GoneAt, HasRun, IsGathered, MayShare, seen_in}
use Rattle.run_replay.specs.Leveled.{AllHere}
use Rattle.run_replay.specs.Moves.{IsSooner, MetThen, PassesAt}
use Rattle.run_replay.specs.Pace.{pace_of, spare_of}
use Rattle.run_replay.proofs.Joining.{all_here, gone_few, gone_least, gone_there, keeps_room, passed_all, passed_pace, passed_spares, passed_tells}
use Rattle.run_replay.proofs.together.GatheredTogetherRuns.pass_next.Goals as goal

pub gone-at-requires-clause-some : goal.gone-at-requires-clause-some
gone-at-requires-clause-some c =
    let g0 : GatheredView = record { heap = c.self.inside.heap; runs = c.self.inside.runs.items; complete = c.self.inside.complete } in
    let some = subst (λ (v : GatheredView). SomeGone (seen_in v)) (sym c.self.view_is) c.requires.gone in
    subst (λ (rs : List (Option RunView)). (d : ℕ) × (d < length rs) × GoneAt rs d) (sym c.as_slice.ensures.value) (gone_there g0 c.self.invariant.0 some)

pub gone-at-requires-clause-filled : goal.gone-at-requires-clause-filled
gone-at-requires-clause-filled c =
    subst (λ (rs : List (Option RunView)). (d : ℕ) → d < length rs → (r : RunView) × HasRun rs d r) (sym c.as_slice.ensures.value) c.self.invariant.0.filled

pub pass_at-requires-clause-inside : goal.pass_at-requires-clause-inside
pass_at-requires-clause-inside c = let inside = c.gone-at.ensures.inside in let one = ap length c.as_slice.ensures.value in let two = ap length c.as_mut_slice.ensures.value in omega (arith, inside, one, two)

pub pass_at-requires-clause-count : goal.pass_at-requires-clause-count
pass_at-requires-clause-count c = ap length c.as_mut_slice.ensures.value ∙ c.self.invariant.0.count

pub pass_at-requires-clause-here : goal.pass_at-requires-clause-here
pass_at-requires-clause-here c =
    let g0 : GatheredView = record { heap = c.self.inside.heap; runs = c.self.inside.runs.items; complete = c.self.inside.complete } in
    subst (AllHere c.self.inside.heap) (sym c.as_mut_slice.ensures.value) (all_here g0 c.self.invariant.0)

pub pass_at-requires-clause-gone : goal.pass_at-requires-clause-gone
pass_at-requires-clause-gone c = λ r there.
    let gone = subst (λ (rs : List (Option RunView)). GoneAt rs c.gone-at.result) c.as_slice.ensures.value c.gone-at.ensures.gone in
    gone r (subst (λ (rs : List (Option RunView)). HasRun rs c.gone-at.result r) c.as_mut_slice.ensures.value there)

pub pass_at-requires-clause-few : goal.pass_at-requires-clause-few
pass_at-requires-clause-few c = λ r there.
    let g0 : GatheredView = record { heap = c.self.inside.heap; runs = c.self.inside.runs.items; complete = c.self.inside.complete } in
    let gone = subst (λ (rs : List (Option RunView)). GoneAt rs c.gone-at.result) c.as_slice.ensures.value c.gone-at.ensures.gone in
    let sooner = subst (λ (rs : List (Option RunView)). (d : ℕ) → d < length rs → GoneAt rs d → IsSooner rs c.gone-at.result d) c.as_slice.ensures.value c.gone-at.ensures.least in
    let least = gone_least g0 c.self.invariant.0 c.gone-at.result gone sooner in
    let room = subst (λ (v : GatheredView). 0 < spare_of v) (sym c.self.view_is) c.requires.room in
    gone_few g0 c.self.invariant.0 c.gone-at.result least room r (subst (λ (rs : List (Option RunView)). HasRun rs c.gone-at.result r) c.as_mut_slice.ensures.value there)

pub pass_at-requires-clause-least : goal.pass_at-requires-clause-least
pass_at-requires-clause-least c = λ d.
    let g0 : GatheredView = record { heap = c.self.inside.heap; runs = c.self.inside.runs.items; complete = c.self.inside.complete } in
    let gone = subst (λ (rs : List (Option RunView)). GoneAt rs c.gone-at.result) c.as_slice.ensures.value c.gone-at.ensures.gone in
    let sooner = subst (λ (rs : List (Option RunView)). (d : ℕ) → d < length rs → GoneAt rs d → IsSooner rs c.gone-at.result d) c.as_slice.ensures.value c.gone-at.ensures.least in
    let least = gone_least g0 c.self.invariant.0 c.gone-at.result gone sooner in
    subst (λ (rs : List (Option RunView)). IsSooner rs c.gone-at.result d) (sym c.as_mut_slice.ensures.value) (least d)

pub pass_at-requires-clause-empty : goal.pass_at-requires-clause-empty
pass_at-requires-clause-empty c = c.self.invariant.1.0

pub pass_at-requires-clause-fits : goal.pass_at-requires-clause-fits
pass_at-requires-clause-fits c = subst (λ n. n < vec_capacity c.self.inside.meeting) (ap length (sym c.as_mut_slice.ensures.value)) c.self.invariant.1.1

pub invariant_of-self : goal.invariant_of-self
invariant_of-self c =
    let g0 : GatheredView = record { heap = c.self.inside.heap; runs = c.self.inside.runs.items; complete = c.self.inside.complete } in
    let gone = subst (λ (rs : List (Option RunView)). GoneAt rs c.gone-at.result) c.as_slice.ensures.value c.gone-at.ensures.gone in
    let sooner = subst (λ (rs : List (Option RunView)). (d : ℕ) → d < length rs → GoneAt rs d → IsSooner rs c.gone-at.result d) c.as_slice.ensures.value c.gone-at.ensures.least in
    let least = gone_least g0 c.self.invariant.0 c.gone-at.result gone sooner in
    let new = c.pass_at.new.runs in
    let m = subst (λ (rs : List (Option RunView)). MetThen rs (λ pause mid. PassesAt c.self.inside.heap c.self.inside.complete pause mid new c.gone-at.result)) c.as_mut_slice.ensures.value c.pass_at.ensures.passes in
    let same = with_items_is c.self.inside.runs new (c.pass_at.auto.runs ∙ (ap length c.as_mut_slice.ensures.value ∙ sym c.self.inside.runs.ok.0)) in
    let all = subst (λ (rs : List (Option RunView)). IsGathered (record g0 { runs = rs })) (sym same) (passed_all g0 c.self.invariant.0 m.mid c.gone-at.result m.leveled least new m.moved) in
    (all, keeps_room _ _ _ _ _ _ c.self.invariant.1 (ap length same ∙ (c.pass_at.auto.runs ∙ ap length c.as_mut_slice.ensures.value)) c.pass_at.ensures.room.0 c.pass_at.ensures.room.1)

pub returns-clause-passed : goal.returns-clause-passed
returns-clause-passed c =
    let g0 : GatheredView = record { heap = c.self.inside.heap; runs = c.self.inside.runs.items; complete = c.self.inside.complete } in
    let gone = subst (λ (rs : List (Option RunView)). GoneAt rs c.gone-at.result) c.as_slice.ensures.value c.gone-at.ensures.gone in
    let sooner = subst (λ (rs : List (Option RunView)). (d : ℕ) → d < length rs → GoneAt rs d → IsSooner rs c.gone-at.result d) c.as_slice.ensures.value c.gone-at.ensures.least in
    let least = gone_least g0 c.self.invariant.0 c.gone-at.result gone sooner in
    let new = c.pass_at.new.runs in
    let m = subst (λ (rs : List (Option RunView)). MetThen rs (λ pause mid. PassesAt c.self.inside.heap c.self.inside.complete pause mid new c.gone-at.result)) c.as_mut_slice.ensures.value c.pass_at.ensures.passes in
    let same = with_items_is c.self.inside.runs new (c.pass_at.auto.runs ∙ (ap length c.as_mut_slice.ensures.value ∙ sym c.self.inside.runs.ok.0)) in
    let tells = passed_tells g0 c.self.invariant.0 m.mid c.gone-at.result m.leveled least new m.moved in
    let here = subst (λ (rs : List (Option RunView)). Passed (MayShare g0) (MayShare (record g0 { runs = rs })) (seen_in g0) (seen_in (record g0 { runs = rs })) c.gone-at.result) (sym same) tells in
    (c.gone-at.result, subst (λ (v : GatheredView). Passed (MayShare v) (MayShare (record g0 { runs = (Rattle.std.specs.Vec.with_items c.self.inside.runs new).items })) (seen_in v) (seen_in (record g0 { runs = (Rattle.std.specs.Vec.with_items c.self.inside.runs new).items })) c.gone-at.result) c.self.view_is here)

pub returns-clause-nearer : goal.returns-clause-nearer
returns-clause-nearer c =
    let g0 : GatheredView = record { heap = c.self.inside.heap; runs = c.self.inside.runs.items; complete = c.self.inside.complete } in
    let gone = subst (λ (rs : List (Option RunView)). GoneAt rs c.gone-at.result) c.as_slice.ensures.value c.gone-at.ensures.gone in
    let sooner = subst (λ (rs : List (Option RunView)). (d : ℕ) → d < length rs → GoneAt rs d → IsSooner rs c.gone-at.result d) c.as_slice.ensures.value c.gone-at.ensures.least in
    let least = gone_least g0 c.self.invariant.0 c.gone-at.result gone sooner in
    let new = c.pass_at.new.runs in
    let m = subst (λ (rs : List (Option RunView)). MetThen rs (λ pause mid. PassesAt c.self.inside.heap c.self.inside.complete pause mid new c.gone-at.result)) c.as_mut_slice.ensures.value c.pass_at.ensures.passes in
    let same = with_items_is c.self.inside.runs new (c.pass_at.auto.runs ∙ (ap length c.as_mut_slice.ensures.value ∙ sym c.self.inside.runs.ok.0)) in
    let here = subst (λ (rs : List (Option RunView)). pace_of (record g0 { runs = rs }) < pace_of g0) (sym same) (passed_pace g0 c.self.invariant.0 m.mid c.gone-at.result m.leveled least new m.moved gone) in
    subst (λ (v : GatheredView). pace_of (record g0 { runs = (Rattle.std.specs.Vec.with_items c.self.inside.runs new).items }) < pace_of v) c.self.view_is here

pub returns-clause-spares : goal.returns-clause-spares
returns-clause-spares c =
    let g0 : GatheredView = record { heap = c.self.inside.heap; runs = c.self.inside.runs.items; complete = c.self.inside.complete } in
    let gone = subst (λ (rs : List (Option RunView)). GoneAt rs c.gone-at.result) c.as_slice.ensures.value c.gone-at.ensures.gone in
    let sooner = subst (λ (rs : List (Option RunView)). (d : ℕ) → d < length rs → GoneAt rs d → IsSooner rs c.gone-at.result d) c.as_slice.ensures.value c.gone-at.ensures.least in
    let least = gone_least g0 c.self.invariant.0 c.gone-at.result gone sooner in
    let new = c.pass_at.new.runs in
    let m = subst (λ (rs : List (Option RunView)). MetThen rs (λ pause mid. PassesAt c.self.inside.heap c.self.inside.complete pause mid new c.gone-at.result)) c.as_mut_slice.ensures.value c.pass_at.ensures.passes in
    let same = with_items_is c.self.inside.runs new (c.pass_at.auto.runs ∙ (ap length c.as_mut_slice.ensures.value ∙ sym c.self.inside.runs.ok.0)) in
    let here = subst (λ (rs : List (Option RunView)). spare_of g0 ≤ spare_of (record g0 { runs = rs })) (sym same) (passed_spares g0 c.self.invariant.0 m.mid c.gone-at.result m.leveled least new m.moved gone) in
    subst (λ (v : GatheredView). spare_of v ≤ spare_of (record g0 { runs = (Rattle.std.specs.Vec.with_items c.self.inside.runs new).items })) c.self.view_is here
