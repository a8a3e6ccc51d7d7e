use Rattle.std.proofs.Common.{arith}
use Rattle.text_script.proofs.OfSchedule.OfDrive.Passing.{leads_none, pause_begins, pause_passes}
use Rattle.text_script.proofs.schedule.drive.pausing.pause.Goals as goal

pub passes-init : goal.passes-init
passes-init g c = record {
  paused = pause_begins (g.T.TogetherRuns.shares c.args.runs.now) (g.T.TogetherRuns.shares c.halt_all.new.self) _ _ c.args.complete c.halt_all.ensures.on c.halt_all.ensures.seen (λ h new. (c.shows_shared.ensures.shared h new).legal);
  stands = c.shows_shared.ensures.stands;
  room = let before = c.requires.room in let spends = c.halt_all.ensures.spends in omega (arith, before, spends);
  spends = c.halt_all.ensures.spends;
}

pub passes-preserved : goal.passes-preserved
passes-preserved g c =
    let step = c.pass_next.ensures.passed in
    record {
      paused = pause_passes (g.T.TogetherRuns.shares c.args.runs.now) (g.T.TogetherRuns.shares c.passes.runs) (g.T.TogetherRuns.shares c.pass_next.new.self) _ _ _ c.args.complete step.0 c.passes.invariant.paused step.1 (λ h new. (c.shows_shared-in-passes.ensures.shared h new).legal);
      stands = c.shows_shared-in-passes.ensures.stands;
      room = let before = c.passes.invariant.room in let spares = c.pass_next.ensures.spares in omega (arith, before, spares);
      spends = let before = c.passes.invariant.spends in let spares = c.pass_next.ensures.spares in omega (arith, before, spares);
    }

pub returns-then-all_run-clause-over : goal.returns-then-all_run-clause-over
returns-then-all_run-clause-over g c = leads_none (g.T.TogetherRuns.seen c.passes.runs) c.passes.invariant.stands (c.all_run.ensures.yes c.if-all_run.true)
