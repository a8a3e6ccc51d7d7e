use Rattle.std.proofs.Common.{◌<◌, ◌≤◌, ◌+◌}
use Rattle.text_script.specs.Schedule.Drive.Pausing.{Paused}
use Rattle.text_script.specs.Schedule.Drive.Spending.{most_in_pause}
use Rattle.text_script.specs.Schedule.Drive.Together.{Stands}
use Rattle.text_script.proofs.schedule.drive.pausing.pause.Given as goal

abbrev pub invariant-passes : goal.invariant-passes
invariant-passes g l = record {
  paused : Paused l.complete (g.T.TogetherRuns.shares l.fn.runs) (g.T.TogetherRuns.shares l.runs) (g.T.TogetherRuns.seen l.fn.runs) (g.T.TogetherRuns.seen l.runs);
  stands : Stands (g.T.TogetherRuns.seen l.runs);
  room : 0 < g.T.TogetherRuns.spare l.runs;
  spends : g.T.TogetherRuns.spare l.fn.runs ≤ g.T.TogetherRuns.spare l.runs + most_in_pause;
}

abbrev pub decreases-passes : goal.decreases-passes
decreases-passes g l = g.T.TogetherRuns.pace l.runs
