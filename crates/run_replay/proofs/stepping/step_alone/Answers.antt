use Rattle.std.proofs.Common.{◌≡◌, ◌∙◌, ◌+◌, ◌<◌, false, List, Option, ap, arith, length, length-set, refl, subst, sym, Some, ℕ}
use Rattle.std.specs.Prelude.{slice_set, vec_capacity}
use Rattle.run_turns.specs.declared.supply.Supply.TheVariants.{Listed, Section}
use Rattle.heap_rule.specs.declared.config.Config.{Config}
use Rattle.heap_rule.specs.Token.{SharedHeap, Token, IsIn}
use Rattle.run_turns.specs.Runs.{CalmAnswers, IsRun, RunView}
use Rattle.text_script.specs.declared.schedule.drive.together.Stepped.{Stepped}
use Rattle.text_script.specs.declared.schedule.drive.together.Stepped.TheVariants.{Needs}
use Rattle.run_replay.specs.Gathered.{HasRun}
use Rattle.run_replay.specs.Moves.{CameTo}
use Rattle.run_replay.proofs.Ample.{never_refused}
use Rattle.run_replay.proofs.Asking.{asks_no_more, once_paused}
use Rattle.run_replay.proofs.CalmLemmas.{calm_keeps}
use Rattle.run_replay.proofs.LevelLemmas.{level_shared, set_all_here}
use Rattle.run_replay.proofs.Places.{set_else, set_here}
use Rattle.run_replay.proofs.SlotLemmas.{has_run, never_none, one_there}
use Rattle.run_replay.proofs.stepping.step_alone.Goals as goal

pub unreachable-requires : goal.unreachable-requires
unreachable-requires c = let f = c.requires.here.filled c.args.at c.requires.inside in never_none _ c.args.at _ f.0 f.1 c.in_default.is

pub go_on-requires-clause-here : goal.go_on-requires-clause-here
go_on-requires-clause-here c = c.requires.here.here c.args.at _ (has_run _ c.args.at _ _ c.requires.inside c.in-Some.is)

pub go_on-requires-clause-left : goal.go_on-requires-clause-left
go_on-requires-clause-left c = c.requires.running _ (has_run _ c.args.at _ _ c.requires.inside c.in-Some.is)

pub go_on-requires-clause-shows : goal.go_on-requires-clause-shows
go_on-requires-clause-shows c = λ section. let clash : Listed ≡ Section = sym (c.requires.few.listed c.args.at _ (has_run _ c.args.at _ _ c.requires.inside c.in-Some.is)) ∙ section in cc

pub came_to-stepped-requires-clause-running : goal.came_to-stepped-requires-clause-running
came_to-stepped-requires-clause-running c = (calm_keeps c.args.heap.now c.in-Some.run' c.go_on.new.run c.go_on.result c.go_on.ensures.answer).left ∙ c.requires.running _ (has_run _ c.args.at _ _ c.requires.inside c.in-Some.is)

pub meet-requires-clause-some : goal.meet-requires-clause-some
meet-requires-clause-some c = let within = c.requires.inside in let long = length-set c.args.runs.now c.args.at (Some c.came_to-stepped.new.run) in omega (arith, within, long)

pub meet-requires-clause-fits : goal.meet-requires-clause-fits
meet-requires-clause-fits c = subst (λ n. n < vec_capacity c.args.room.now) (sym (length-set c.args.runs.now c.args.at (Some c.came_to-stepped.new.run))) c.requires.fits

pub meet-requires-clause-here : goal.meet-requires-clause-here
meet-requires-clause-here c =
    let made : RunView = c.came_to-stepped.new.run in
    let same : c.go_on.new.run ≡ made = sym c.came_to-stepped.ensures.same in
    set_all_here c.args.heap.now c.args.runs.now c.args.at made c.requires.here c.requires.inside (subst (λ (v : RunView). IsIn v.token c.args.heap.now) same c.go_on.ensures.here) (subst IsRun same c.shows_faithful.ensures)

-- it is refused no allocation, and needs no other pause
pub unreachable-requires-then-asks_again : goal.unreachable-requires-then-asks_again
unreachable-requires-then-asks_again c =
    let h : SharedHeap = c.args.heap.now in
    let at : ℕ = c.args.at in
    let r : RunView = c.in-Some.run' in
    let there : HasRun c.args.runs.now at r = has_run _ at _ _ c.requires.inside c.in-Some.is in
    let made : RunView = c.came_to-stepped.new.run in
    let same : c.go_on.new.run ≡ made = sym c.came_to-stepped.ensures.same in
    let again = c.asks_again.ensures.yes c.if-asks_again.true in
    let level = c.meet.ensures.leveled in
    let set : List (Option RunView) = slice_set c.args.runs.now at (Some made) in
    let mine : HasRun set at made = set_here c.args.runs.now at (Some made) c.requires.inside in
    let is : IsRun made = subst IsRun same c.shows_faithful.ensures in
    let came : CameTo h.config made r.next (length r.replies) (Needs false) = subst (λ (w : (RunView × Stepped) × (ℕ × ℕ)). CameTo h.config w.0.0 w.1.0 w.1.1 w.0.1) (λ i. ((same i, again.1 i), (c.next-next.ensures.next i, length (c.replies-count.ensures.replies i)))) c.came_to-stepped.ensures.came in
    asks_no_more h r made c.config-limits.ensures.limits (c.requires.here.are at r there) (c.requires.few.listed at r there) (c.requires.running r there) (c.requires.goes_on r there) (c.requires.few.asks at r there)
    (subst (λ (t : Token). t.view.own.remembered.room + length t.view.own.remembered.items ≡ t.config.minor_words) c.domain.ensures c.remembered_len-remembered.ensures.whole ∙ ap (λ (k : Config). k.minor_words) (c.requires.here.here at r there).1)
    (sym c.has_paused-paused.ensures ∙ again.0) came
    (never_refused h c.args.runs.now at r made c.requires.here c.requires.few there is
    (λ d q away was. level_shared set c.meet.new.runs level d at q made (set_else c.args.runs.now at d (Some made) away ∙ was) mine))
    c.go_on.result (subst (λ (v : RunView). CalmAnswers h r v c.go_on.result) same c.go_on.ensures.answer)

pub returns : goal.returns
returns c = record {
  steps = record {
    run = c.in-Some.run';
    made = c.go_on.new.run;
    answer = c.go_on.result;
    calm = c.go_on.ensures.answer;
    came = subst (λ (w : ℕ × ℕ). CameTo c.args.heap.now.config c.go_on.new.run w.0 w.1 c.came_to-stepped.result) (λ i. (c.next-next.ensures.next i, length (c.replies-count.ensures.replies i))) c.came_to-stepped.ensures.came;
    once = λ needs. once_paused c.in-Some.run' c.has_paused-paused.result c.has_paused-paused.ensures (c.asks_again.ensures.no c.if-asks_again.false needs);
    becomes = record {
      was = has_run _ c.args.at _ _ c.requires.inside c.in-Some.is;
      here = c.go_on.ensures.here;
      is = c.shows_faithful.ensures;
      runs = ap (λ (r : RunView). slice_set c.args.runs.now c.args.at (Some r)) c.came_to-stepped.ensures.same;
    };
  };
  room = (c.requires.empty, refl);
}

pub meet-requires-clause-running : goal.meet-requires-clause-running
meet-requires-clause-running c = λ one r there.
    let within = c.requires.inside in
    let long = length-set c.args.runs.now c.args.at (Some c.came_to-stepped.new.run) in
    let first : 0 ≡ c.args.at = omega (arith, one, long, within) in
    let set : List (Option RunView) = slice_set c.args.runs.now c.args.at (Some c.came_to-stepped.new.run) in
    let mine : HasRun set c.args.at c.came_to-stepped.new.run = set_here c.args.runs.now c.args.at (Some c.came_to-stepped.new.run) c.requires.inside in
    let same : c.came_to-stepped.new.run ≡ r = one_there set c.args.at c.came_to-stepped.new.run r mine (subst (λ (n : ℕ). HasRun set n r) first there) in
    ap (λ (x : RunView). x.left) (sym same ∙ c.came_to-stepped.ensures.same) ∙ ((calm_keeps c.args.heap.now c.in-Some.run' c.go_on.new.run c.go_on.result c.go_on.ensures.answer).left ∙ c.requires.running _ (has_run _ c.args.at _ _ c.requires.inside c.in-Some.is))
