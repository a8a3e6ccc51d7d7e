use Rattle.std.proofs.Common.{◌∙◌, ◌<◌, List, Option, ap, arith, length, subst, sym}
use Rattle.std.specs.Prelude.{vec_capacity}
use Rattle.std.specs.List.{AllByRecursion}
use Rattle.std.proofs.lemmas.List.{with_items_is}
use Rattle.run_turns.specs.Runs.{RunView}
use Rattle.run_replay.specs.Ends.{IsThere, TakenApart}
use Rattle.run_replay.specs.Gathered.{GatheredView}
use Rattle.run_replay.specs.Leveled.{AllHere, Leveled}
use Rattle.run_replay.proofs.EndLemmas.{taken_apart, there_all}
use Rattle.run_replay.proofs.Joining.{all_here, met_all}
use Rattle.run_replay.proofs.gathered.Gathered.apart.Goals as goal

pub meet-requires-clause-some : goal.meet-requires-clause-some
meet-requires-clause-some c = let least = c.config-limits.ensures.limits.some_domain in let count = c.self.invariant.0.count in let same = ap length c.as_mut_slice.ensures.value in omega (arith, least, count, same)

pub meet-requires-clause-here : goal.meet-requires-clause-here
meet-requires-clause-here c =
    let g0 : GatheredView = record { heap = c.self.inside.heap; runs = c.self.inside.runs.items; complete = c.self.inside.complete } in
    subst (AllHere c.self.inside.heap) (sym c.as_mut_slice.ensures.value) (all_here g0 c.self.invariant.0)

pub meet-requires-clause-empty : goal.meet-requires-clause-empty
meet-requires-clause-empty c = c.self.invariant.1.0

pub meet-requires-clause-fits : goal.meet-requires-clause-fits
meet-requires-clause-fits c = subst (λ n. n < vec_capacity c.self.inside.meeting) (ap length (sym c.as_mut_slice.ensures.value)) c.self.invariant.1.1

pub runs_of-runs-requires-clause-filled : goal.runs_of-runs-requires-clause-filled
runs_of-runs-requires-clause-filled c =
    let g0 : GatheredView = record { heap = c.self.inside.heap; runs = c.self.inside.runs.items; complete = c.self.inside.complete } in
    let new = c.meet.new.runs in
    let l = subst (λ (rs : List (Option RunView)). Leveled rs new) c.as_mut_slice.ensures.value c.meet.ensures.leveled in
    let same = with_items_is c.self.inside.runs new (c.meet.auto.runs ∙ (ap length c.as_mut_slice.ensures.value ∙ sym c.self.inside.runs.ok.0)) in
    subst (AllByRecursion IsThere) (sym same) (there_all new (met_all g0 c.self.invariant.0 new l).filled)

pub returns-clause-apart : goal.returns-clause-apart
returns-clause-apart c =
    let g0 : GatheredView = record { heap = c.self.inside.heap; runs = c.self.inside.runs.items; complete = c.self.inside.complete } in
    let new = c.meet.new.runs in
    let l = subst (λ (rs : List (Option RunView)). Leveled rs new) c.as_mut_slice.ensures.value c.meet.ensures.leveled in
    let same = with_items_is c.self.inside.runs new (c.meet.auto.runs ∙ (ap length c.as_mut_slice.ensures.value ∙ sym c.self.inside.runs.ok.0)) in
    let some : 0 < c.self.inside.heap.config.domains = let least = c.config-limits.ensures.limits.some_domain in omega (arith, least) in
    subst (λ (v : GatheredView). TakenApart v c.runs_of-runs.result.items) c.self.view_is (taken_apart g0 c.self.invariant.0 new l some c.runs_of-runs.result.items (c.runs_of-runs.ensures ∙ same))
