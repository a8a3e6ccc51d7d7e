use Rattle.std.proofs.Common.{◌≡◌, ◌<◌, ◌≤◌, ◌+◌, ◌*◌, ℕ, fold, length}
use Rattle.std.specs.List.{range_with_len}
use Rattle.model_traces.specs.Schedules.Scheduled.{Played, take_turn}
use Rattle.text_script.specs.Schedule.Drive.Pausing.{all_commands}
use Rattle.text_script.specs.Schedule.Drive.Ending.{AllWithin, turns_at}
use Rattle.text_script.specs.Schedule.Drive.Following.{AllFollow, IsCalm}
use Rattle.text_script.specs.Schedule.Drive.Spending.{most_in_turn}
use Rattle.text_script.proofs.schedule.drive.replaying.take_round.Given as goal

abbrev pub invariant-domains : goal.invariant-domains
invariant-domains g l = record {
  sizes : (g.T.TogetherRuns.seen l.runs).sizes ≡ (g.T.TogetherRuns.seen l.fn.runs).sizes;
  count : length (g.T.TogetherRuns.seen l.runs).runs ≡ length (g.T.TogetherRuns.seen l.fn.runs).runs;
  commands : all_commands (g.T.TogetherRuns.seen l.runs) ≡ all_commands (g.T.TogetherRuns.seen l.fn.runs);
  calm : IsCalm (g.T.TogetherRuns.seen l.runs);
  through : (n : ℕ) → AllWithin (n + 1) (g.T.TogetherRuns.seen l.fn.runs) → (d : ℕ) → d < l.at → turns_at (g.T.TogetherRuns.seen l.runs) d ≤ n;
  rest : (d : ℕ) → l.at ≤ d → turns_at (g.T.TogetherRuns.seen l.runs) d ≡ turns_at (g.T.TogetherRuns.seen l.fn.runs) d;
  taken : (p : Played) → AllFollow (g.T.TogetherRuns.seen l.fn.runs) (g.T.TogetherRuns.shares l.fn.runs) p → AllFollow (g.T.TogetherRuns.seen l.runs) (g.T.TogetherRuns.shares l.runs) (fold take_turn p (range_with_len 0 l.at));
  spends : g.T.TogetherRuns.spare l.fn.runs ≤ g.T.TogetherRuns.spare l.runs + l.at * most_in_turn;
}
