use Rattle.std.proofs.Common.{◌≡◌, ◌≤◌, ◌+◌, ◌*◌, ℕ, length}
use Rattle.model_traces.specs.Schedules.Scheduled.{Played, take_rounds}
use Rattle.text_script.specs.Schedule.Drive.Pausing.{all_commands}
use Rattle.text_script.specs.Schedule.Drive.Ending.{AllWithin}
use Rattle.text_script.specs.Schedule.Drive.Following.{AllFollow, IsCalm, IsPlayed}
use Rattle.text_script.specs.Schedule.Drive.Spending.{most_in_round}
use Rattle.text_script.proofs.schedule.drive.replaying.take_rounds.Given as goal

abbrev pub invariant-rounds : goal.invariant-rounds
invariant-rounds g l = record {
  count : length (g.T.TogetherRuns.seen l.runs).runs ≡ length (g.T.TogetherRuns.seen l.fn.runs).runs;
  sizes : (g.T.TogetherRuns.seen l.runs).sizes ≡ (g.T.TogetherRuns.seen l.fn.runs).sizes;
  commands : all_commands (g.T.TogetherRuns.seen l.runs) ≡ all_commands (g.T.TogetherRuns.seen l.fn.runs);
  calm : IsCalm (g.T.TogetherRuns.seen l.runs);
  within : (n : ℕ) → AllWithin (n + l.counter) (g.T.TogetherRuns.seen l.fn.runs) → AllWithin n (g.T.TogetherRuns.seen l.runs);
  taken : (p : Played) → IsPlayed (g.T.TogetherRuns.seen l.fn.runs).sizes p → AllFollow (g.T.TogetherRuns.seen l.fn.runs) (g.T.TogetherRuns.shares l.fn.runs) p → AllFollow (g.T.TogetherRuns.seen l.runs) (g.T.TogetherRuns.shares l.runs) (take_rounds l.counter p);
  spends : g.T.TogetherRuns.spare l.fn.runs ≤ g.T.TogetherRuns.spare l.runs + l.counter * most_in_round (length (g.T.TogetherRuns.seen l.fn.runs).runs);
}
