use Rattle.std.proofs.Common.{◌≡◌, ◌∙◌, ◌<◌, ◌≤◌, ◌+◌, [], true, List, Option, ap, arith, length, subst, sym}
use Rattle.std.specs.Prelude.{vec_capacity}
use Rattle.std.proofs.lemmas.List.{with_items_is}
use Rattle.run_turns.specs.Runs.{RunView}
use Rattle.text_script.specs.Schedule.Drive.Spending.{most_in_pause}
use Rattle.text_script.specs.Schedule.Drive.Together.{AllHave, SharesOn, all_halted}
use Rattle.run_replay.specs.Gathered.{GatheredView, HasRun, IsGathered, MayShare, seen_in}
use Rattle.run_replay.specs.Leveled.{AllHere}
use Rattle.run_replay.specs.Moves.{HaltsUpto, MetThen}
use Rattle.run_replay.specs.Pace.{spare_of}
use Rattle.run_replay.proofs.Joining.{all_here, first_few, halted_all_are, halted_on, halted_seen, halted_spends, keeps_room, runs_met, runs_run}
use Rattle.run_replay.proofs.together.GatheredTogetherRuns.halt_all.Goals as goal

pub halt_all-requires-clause-some : goal.halt_all-requires-clause-some
halt_all-requires-clause-some c = let l = c.config-limits.ensures.limits.domains in let count = c.self.invariant.0.count in let same = ap length c.as_mut_slice.ensures.value in omega (arith, l, count, same)

pub halt_all-requires-clause-here : goal.halt_all-requires-clause-here
halt_all-requires-clause-here c =
    let g0 : GatheredView = record { heap = c.self.inside.heap; runs = c.self.inside.runs.items; complete = c.self.inside.complete } in
    subst (AllHere c.self.inside.heap) (sym c.as_mut_slice.ensures.value) (all_here g0 c.self.invariant.0)

pub halt_all-requires-clause-running : goal.halt_all-requires-clause-running
halt_all-requires-clause-running c = λ d r there.
    let run = subst (λ (v : GatheredView). AllHave (λ x. x.runs) true (seen_in v)) (sym c.self.view_is) c.requires.run in
    let g0 : GatheredView = record { heap = c.self.inside.heap; runs = c.self.inside.runs.items; complete = c.self.inside.complete } in
    runs_run g0 run d r (subst (λ (rs : List (Option RunView)). HasRun rs d r) c.as_mut_slice.ensures.value there)

pub halt_all-requires-clause-few : goal.halt_all-requires-clause-few
halt_all-requires-clause-few c = λ r there.
    let g0 : GatheredView = record { heap = c.self.inside.heap; runs = c.self.inside.runs.items; complete = c.self.inside.complete } in
    let room = subst (λ (v : GatheredView). most_in_pause < spare_of v) (sym c.self.view_is) c.requires.room in
    first_few g0 (omega (arith, room)) r (subst (λ (rs : List (Option RunView)). HasRun rs 0 r) c.as_mut_slice.ensures.value there)

pub halt_all-requires-clause-empty : goal.halt_all-requires-clause-empty
halt_all-requires-clause-empty c = c.self.invariant.1.0

pub halt_all-requires-clause-fits : goal.halt_all-requires-clause-fits
halt_all-requires-clause-fits c = subst (λ n. n < vec_capacity c.self.inside.meeting) (ap length (sym c.as_mut_slice.ensures.value)) c.self.invariant.1.1

pub invariant_of-self : goal.invariant_of-self
invariant_of-self c =
    let g0 : GatheredView = record { heap = c.self.inside.heap; runs = c.self.inside.runs.items; complete = c.self.inside.complete } in
    let new = c.halt_all.new.runs in
    let run = subst (λ (v : GatheredView). AllHave (λ x. x.runs) true (seen_in v)) (sym c.self.view_is) c.requires.run in
    let m = subst (λ (rs : List (Option RunView)). MetThen rs (λ pause mid. HaltsUpto c.self.inside.heap mid new (length mid))) c.as_mut_slice.ensures.value c.halt_all.ensures.halts in
    let same = with_items_is c.self.inside.runs new (c.halt_all.auto.runs ∙ (ap length c.as_mut_slice.ensures.value ∙ sym c.self.inside.runs.ok.0)) in
    let some : 0 < c.self.inside.heap.config.domains = let l = c.config-limits.ensures.limits.domains in omega (arith, l) in
    let all = subst (λ (rs : List (Option RunView)). IsGathered (record { heap = c.self.inside.heap; runs = rs; complete = c.args.complete })) (sym same) (halted_all_are g0 c.self.invariant.0 m.mid m.leveled new c.args.complete m.moved (runs_met g0 m.mid m.leveled run) some) in
    (all, keeps_room _ _ _ _ _ _ c.self.invariant.1 (ap length same ∙ (c.halt_all.auto.runs ∙ ap length c.as_mut_slice.ensures.value)) c.halt_all.ensures.room.0 c.halt_all.ensures.room.1)

pub returns-clause-on : goal.returns-clause-on
returns-clause-on c =
    let g0 : GatheredView = record { heap = c.self.inside.heap; runs = c.self.inside.runs.items; complete = c.self.inside.complete } in
    let new = c.halt_all.new.runs in
    let run = subst (λ (v : GatheredView). AllHave (λ x. x.runs) true (seen_in v)) (sym c.self.view_is) c.requires.run in
    let m = subst (λ (rs : List (Option RunView)). MetThen rs (λ pause mid. HaltsUpto c.self.inside.heap mid new (length mid))) c.as_mut_slice.ensures.value c.halt_all.ensures.halts in
    let same = with_items_is c.self.inside.runs new (c.halt_all.auto.runs ∙ (ap length c.as_mut_slice.ensures.value ∙ sym c.self.inside.runs.ok.0)) in
    let some : 0 < c.self.inside.heap.config.domains = let l = c.config-limits.ensures.limits.domains in omega (arith, l) in
    let here = subst (λ (rs : List (Option RunView)). SharesOn (MayShare g0) (MayShare (record { heap = c.self.inside.heap; runs = rs; complete = c.args.complete })) []) (sym same) (halted_on g0 c.self.invariant.0 m.mid m.leveled new c.args.complete m.moved (runs_met g0 m.mid m.leveled run) some) in
    subst (λ (v : GatheredView). SharesOn (MayShare v) (MayShare (record { heap = c.self.inside.heap; runs = (Rattle.std.specs.Vec.with_items c.self.inside.runs new).items; complete = c.args.complete })) []) c.self.view_is here

pub returns-clause-seen : goal.returns-clause-seen
returns-clause-seen c =
    let g0 : GatheredView = record { heap = c.self.inside.heap; runs = c.self.inside.runs.items; complete = c.self.inside.complete } in
    let new = c.halt_all.new.runs in
    let run = subst (λ (v : GatheredView). AllHave (λ x. x.runs) true (seen_in v)) (sym c.self.view_is) c.requires.run in
    let m = subst (λ (rs : List (Option RunView)). MetThen rs (λ pause mid. HaltsUpto c.self.inside.heap mid new (length mid))) c.as_mut_slice.ensures.value c.halt_all.ensures.halts in
    let same = with_items_is c.self.inside.runs new (c.halt_all.auto.runs ∙ (ap length c.as_mut_slice.ensures.value ∙ sym c.self.inside.runs.ok.0)) in
    let some : 0 < c.self.inside.heap.config.domains = let l = c.config-limits.ensures.limits.domains in omega (arith, l) in
    let here = subst (λ (rs : List (Option RunView)). seen_in (record { heap = c.self.inside.heap; runs = rs; complete = c.args.complete }) ≡ all_halted c.args.complete (seen_in g0)) (sym same) (halted_seen g0 c.self.invariant.0 m.mid m.leveled new c.args.complete m.moved (runs_met g0 m.mid m.leveled run) some) in
    subst (λ (v : GatheredView). seen_in (record { heap = c.self.inside.heap; runs = (Rattle.std.specs.Vec.with_items c.self.inside.runs new).items; complete = c.args.complete }) ≡ all_halted c.args.complete (seen_in v)) c.self.view_is here

pub returns-clause-spends : goal.returns-clause-spends
returns-clause-spends c =
    let g0 : GatheredView = record { heap = c.self.inside.heap; runs = c.self.inside.runs.items; complete = c.self.inside.complete } in
    let new = c.halt_all.new.runs in
    let run = subst (λ (v : GatheredView). AllHave (λ x. x.runs) true (seen_in v)) (sym c.self.view_is) c.requires.run in
    let m = subst (λ (rs : List (Option RunView)). MetThen rs (λ pause mid. HaltsUpto c.self.inside.heap mid new (length mid))) c.as_mut_slice.ensures.value c.halt_all.ensures.halts in
    let same = with_items_is c.self.inside.runs new (c.halt_all.auto.runs ∙ (ap length c.as_mut_slice.ensures.value ∙ sym c.self.inside.runs.ok.0)) in
    let some : 0 < c.self.inside.heap.config.domains = let l = c.config-limits.ensures.limits.domains in omega (arith, l) in
    let here = subst (λ (rs : List (Option RunView)). spare_of g0 ≤ spare_of (record { heap = c.self.inside.heap; runs = rs; complete = c.args.complete }) + most_in_pause) (sym same) (halted_spends g0 c.self.invariant.0 m.mid m.leveled new c.args.complete m.moved (runs_met g0 m.mid m.leveled run) some c.config-limits.ensures.limits.pools) in
    subst (λ (v : GatheredView). spare_of v ≤ spare_of (record { heap = c.self.inside.heap; runs = (Rattle.std.specs.Vec.with_items c.self.inside.runs new).items; complete = c.args.complete }) + most_in_pause) c.self.view_is here
