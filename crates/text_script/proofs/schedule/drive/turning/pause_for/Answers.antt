use Rattle.text_script.proofs.OfSchedule.OfDrive.Spending.{asks_still}
use Rattle.text_script.proofs.OfSchedule.OfDrive.Turns.{pause_advances}
use Rattle.text_script.proofs.schedule.drive.turning.pause_for.Goals as goal

pub returns : goal.returns
returns g c = record {
  advances = pause_advances (g.T.TogetherRuns.shares c.args.runs.now) (g.T.TogetherRuns.shares c.pause.new.runs) (g.T.TogetherRuns.seen c.args.runs.now) (g.T.TogetherRuns.seen c.pause.new.runs) c.args.at c.requires.inside c.requires.goes_on c.requires.calm
      c.pause.ensures.over c.pause.ensures.run c.shows_shared.ensures.shared c.args.complete c.requires.waits c.pause.ensures.paused;
  asked = asks_still (g.T.TogetherRuns.shares c.args.runs.now) (g.T.TogetherRuns.shares c.pause.new.runs) (g.T.TogetherRuns.seen c.args.runs.now) (g.T.TogetherRuns.seen c.pause.new.runs) c.args.at c.args.complete c.requires.calm.alone c.pause.ensures.paused;
  spends = c.pause.ensures.spends;
  rested = c.pause.ensures.paused.rested c.args.at;
}
