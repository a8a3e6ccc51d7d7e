use Rattle.std.proofs.Common.{◌≡◌, ◌≤◌, ◌+◌, ◌*◌, fold, length, take}
use Rattle.model_traces.specs.Schedules.Scheduled.{Played, take_item}
use Rattle.text_script.specs.Schedule.Drive.Pausing.{all_commands}
use Rattle.text_script.specs.Schedule.Drive.Ending.{NoneMore}
use Rattle.text_script.specs.Schedule.Drive.Following.{AllFollow, IsCalm}
use Rattle.text_script.specs.Schedule.Drive.Spending.{most_in_turn}
use Rattle.text_script.proofs.schedule.drive.replaying.take_items.Given as goal

abbrev pub invariant-loop-item : goal.invariant-loop-item
invariant-loop-item g l = record {
  sizes : (g.T.TogetherRuns.seen l.runs).sizes ≡ (g.T.TogetherRuns.seen l.fn.runs).sizes;
  count : length (g.T.TogetherRuns.seen l.runs).runs ≡ length (g.T.TogetherRuns.seen l.fn.runs).runs;
  commands : all_commands (g.T.TogetherRuns.seen l.runs) ≡ all_commands (g.T.TogetherRuns.seen l.fn.runs);
  calm : IsCalm (g.T.TogetherRuns.seen l.runs);
  none : NoneMore (g.T.TogetherRuns.seen l.fn.runs) (g.T.TogetherRuns.seen l.runs);
  taken : (p : Played) → AllFollow (g.T.TogetherRuns.seen l.fn.runs) (g.T.TogetherRuns.shares l.fn.runs) p → AllFollow (g.T.TogetherRuns.seen l.runs) (g.T.TogetherRuns.shares l.runs) (fold take_item p (take l.item-index l.items));
  spends : g.T.TogetherRuns.spare l.fn.runs ≤ g.T.TogetherRuns.spare l.runs + l.item-index * most_in_turn;
}
