use Rattle.std.proofs.Common.{◌∙◌, ◌<◌, ℕ, None, Some, ap, length, length-set, subst, sym}
use Rattle.std.specs.Prelude.{slice_set, vec_capacity}
use Rattle.run_turns.specs.Meeting.{AllButOne, AreHere, PassesAmong}
use Rattle.run_turns.specs.Runs.{IsRun, RunView}
use Rattle.gc_pause.specs.declared.phases.decider.Decider.TheVariants.{Caller}
use Rattle.run_replay.specs.Gathered.{HasRun}
use Rattle.run_replay.proofs.LevelLemmas.{all_but_one, leveled_all, level_mid, level_new, others_here, others_later, twice_set}
use Rattle.run_replay.proofs.Places.{set_here}
use Rattle.run_replay.proofs.passing.pass_at.Goals as goal

pub take_run-run-requires : goal.take_run-run-requires
take_run-run-requires c = record { there = c.requires.here.filled c.args.at c.requires.inside }

pub pass_among-run-requires-clause-here : goal.pass_among-run-requires-clause-here
pass_among-run-requires-clause-here c = c.requires.here.here c.args.at c.take_run-run.result c.take_run-run.ensures.taken

pub pass_among-run-requires-clause-may : goal.pass_among-run-requires-clause-may
pass_among-run-requires-clause-may c = record {
  arrived = c.requires.gone c.take_run-run.result c.take_run-run.ensures.taken;
  few = c.requires.few c.take_run-run.result c.take_run-run.ensures.taken;
  here = subst (AreHere c.args.heap.now) (sym c.take_run-run.ensures.rest) (others_here c.args.heap.now c.args.runs.now c.args.at c.requires.here);
  all = subst (AllButOne c.args.heap.now) (sym c.take_run-run.ensures.rest) (all_but_one c.args.heap.now c.args.runs.now c.args.at c.requires.inside c.requires.count c.requires.here);
  least = λ d q there.
      let was = others_later c.args.runs.now c.args.at d q (subst (λ rs. HasRun rs d q) c.take_run-run.ensures.rest there) in
      c.requires.least d c.take_run-run.result q c.take_run-run.ensures.taken was;
}

pub pass_among-run-requires-clause-fits : goal.pass_among-run-requires-clause-fits
pass_among-run-requires-clause-fits c = subst (λ n. n < vec_capacity c.args.room.now) (sym (ap length c.take_run-run.ensures.rest ∙ length-set c.args.runs.now c.args.at None)) c.requires.fits

pub returns-clause-passes : goal.returns-clause-passes
returns-clause-passes c =
    let heap = c.args.heap.now in
    let old = c.args.runs.now in
    let at = c.args.at in
    let one = c.take_run-run.result in
    let passed = c.pass_among-run.result in
    let others = c.pass_among-run.new.others in
    let p = subst (λ rs. PassesAmong heap (Caller c.args.complete) one passed rs others) c.take_run-run.ensures.rest c.pass_among-run.ensures.passed in
    let met = p.met in
    let mid = level_new heap old others at one met c.requires.here c.take_run-run.ensures.taken p.all_met in
    let within : at < length others = subst (λ (n : ℕ). at < n) (sym (level_mid heap old others at one met c.requires.here c.take_run-run.ensures.taken p.all_met)) c.requires.inside in
    record {
      mid = mid;
      leveled = leveled_all heap old others at one met c.requires.here c.take_run-run.ensures.taken p.all_met;
      moved = record {
        run = met;
        passed = passed;
        passes = p.passes;
        stands = p.stands;
        is_passed = c.shows_faithful.ensures;
        commands = c.pass_among-run.ensures.goes_on.commands ∙ sym (ap (λ (r : RunView). r.commands) p.all_met.own_is);
        supply = c.pass_among-run.ensures.goes_on.supply ∙ sym (ap (λ (r : RunView). r.supply) p.all_met.own_is);
        number = c.pass_among-run.ensures.goes_on.number ∙ sym (ap (λ (r : RunView). r.token.view.own.number) p.all_met.own_is);
        becomes = record {
          was = set_here others at (Some met) within;
          here = c.pass_among-run.ensures.here;
          is = subst IsRun c.forget_collected.ensures c.shows_faithful-2.ensures;
          runs = c.put_run.ensures ∙ (ap (λ (r : RunView). slice_set others at (Some r)) c.forget_collected.ensures ∙ sym (twice_set others at _ _));
        };
      };
    }
