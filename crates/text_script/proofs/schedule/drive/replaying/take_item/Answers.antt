use Rattle.std.proofs.Common.{subst, sym}
use Rattle.model_traces.specs.Schedules.Scheduled.{take_item}
use Rattle.text_script.specs.Schedule.Drive.Following.{AllFollow}
use Rattle.text_script.proofs.OfSchedule.OfDrive.Ending.{takes_none_more}
use Rattle.text_script.proofs.schedule.drive.replaying.take_item.Goals as goal

pub returns-in-Turn-clause-taken : goal.returns-in-Turn-clause-taken
returns-in-Turn-clause-taken g c p follow =
    subst (λ i. AllFollow (g.T.TogetherRuns.seen c.take_turn.new.runs) (g.T.TogetherRuns.shares c.take_turn.new.runs) (take_item p i)) (sym c.in-Turn.is) (c.take_turn.ensures.taken p follow)

pub returns-in-Collect-clause-taken : goal.returns-in-Collect-clause-taken
returns-in-Collect-clause-taken g c p follow =
    subst (λ i. AllFollow (g.T.TogetherRuns.seen c.collect.new.runs) (g.T.TogetherRuns.shares c.collect.new.runs) (take_item p i)) (sym c.in-Collect.is) (c.collect.ensures.taken p follow)

pub returns-in-Turn-clause-none : goal.returns-in-Turn-clause-none
returns-in-Turn-clause-none g c d = takes_none_more (g.T.TogetherRuns.seen c.args.runs.now) (g.T.TogetherRuns.seen c.take_turn.new.runs) _ c.take_turn.ensures.one d
