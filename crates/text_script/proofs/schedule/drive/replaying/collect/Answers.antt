use Rattle.std.proofs.Common.{arith}
use Rattle.text_script.proofs.OfSchedule.OfDrive.Rounds.{collected_calm, collected_stays, none_collected, one_collected}
use Rattle.text_script.proofs.schedule.drive.replaying.collect.Goals as goal

pub returns-then-all_ended-clause-taken : goal.returns-then-all_ended-clause-taken
returns-then-all_ended-clause-taken g c p follow =
    none_collected (g.T.TogetherRuns.shares c.args.runs.now) (g.T.TogetherRuns.seen c.args.runs.now) p c.shows_shared.ensures.stands c.shows_shared.ensures.shared (c.all_ended.ensures.yes c.if-all_ended.true) follow

pub returns-clause-calm : goal.returns-clause-calm
returns-clause-calm g c =
    collected_calm (g.T.TogetherRuns.shares c.args.runs.now) (g.T.TogetherRuns.shares c.pause.new.runs) (g.T.TogetherRuns.seen c.args.runs.now) (g.T.TogetherRuns.seen c.pause.new.runs) c.requires.calm c.pause.ensures.paused c.pause.ensures.run c.pause.ensures.over

pub returns-clause-taken : goal.returns-clause-taken
returns-clause-taken g c p follow =
    let some = c.all_ended.ensures.no c.if-all_ended.false in
    one_collected (g.T.TogetherRuns.shares c.args.runs.now) (g.T.TogetherRuns.shares c.pause.new.runs) (g.T.TogetherRuns.seen c.args.runs.now) (g.T.TogetherRuns.seen c.pause.new.runs) c.requires.calm c.pause.ensures.paused c.pause.ensures.run c.pause.ensures.over
    p c.shows_shared.ensures.stands c.shows_shared.ensures.shared c.shows_shared-2.ensures.shared some.0 some.1 some.2 follow

pub returns-then-all_ended-clause-none : goal.returns-then-all_ended-clause-none
returns-then-all_ended-clause-none g c d = omega arith

pub returns-clause-none : goal.returns-clause-none
returns-clause-none g c d =
    let is = collected_stays (g.T.TogetherRuns.shares c.args.runs.now) (g.T.TogetherRuns.shares c.pause.new.runs) (g.T.TogetherRuns.seen c.args.runs.now) (g.T.TogetherRuns.seen c.pause.new.runs) c.requires.calm c.pause.ensures.paused c.pause.ensures.run c.pause.ensures.over d in
    omega (arith, is)
