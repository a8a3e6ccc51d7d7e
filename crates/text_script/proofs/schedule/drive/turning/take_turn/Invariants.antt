use Rattle.std.proofs.Common.{◌≡◌, ◌≢◌, ◌≤◌, ◌+◌, ◌*◌, ℕ, false, length}
use Rattle.model_traces.specs.Schedules.Scheduled.{Played}
use Rattle.text_script.specs.Schedule.Drive.Pausing.{RestedAt, all_commands}
use Rattle.text_script.specs.Schedule.Drive.Ending.{rank_at, turns_at, waiting_at}
use Rattle.text_script.specs.Schedule.Drive.Following.{AllFollow, AllMidst, IsCalmBut}
use Rattle.text_script.specs.Schedule.Drive.Spending.{SpentInTurn, asked_at}
use Rattle.text_script.specs.Schedule.Drive.Together.{Has}
use Rattle.text_script.proofs.schedule.drive.turning.take_turn.Given as goal

abbrev pub invariant-turns : goal.invariant-turns
invariant-turns g l = record {
  sizes : (g.T.TogetherRuns.seen l.runs).sizes ≡ (g.T.TogetherRuns.seen l.fn.runs).sizes;
  count : length (g.T.TogetherRuns.seen l.runs).runs ≡ length (g.T.TogetherRuns.seen l.fn.runs).runs;
  commands : all_commands (g.T.TogetherRuns.seen l.runs) ≡ all_commands (g.T.TogetherRuns.seen l.fn.runs);
  calm : IsCalmBut (g.T.TogetherRuns.seen l.runs) l.at;
  rested : RestedAt (g.T.TogetherRuns.seen l.runs) l.at;
  goes_on : Has (λ x. x.ended) false (g.T.TogetherRuns.seen l.runs) l.at;
  waits : turns_at (g.T.TogetherRuns.seen l.runs) l.at ≤ turns_at (g.T.TogetherRuns.seen l.fn.runs) l.at;
  others : (e : ℕ) → e ≢ l.at → turns_at (g.T.TogetherRuns.seen l.runs) e ≡ turns_at (g.T.TogetherRuns.seen l.fn.runs) e;
  midst : (p : Played) → AllFollow (g.T.TogetherRuns.seen l.fn.runs) (g.T.TogetherRuns.shares l.fn.runs) p → AllMidst (g.T.TogetherRuns.seen l.runs) (g.T.TogetherRuns.shares l.runs) p l.at;
  spent : SpentInTurn (asked_at (g.T.TogetherRuns.seen l.runs) l.at) (g.T.TogetherRuns.spare l.fn.runs) (g.T.TogetherRuns.spare l.runs);
}

abbrev pub decreases-turns : goal.decreases-turns
decreases-turns g l = rank_at (g.T.TogetherRuns.seen l.runs) l.at * 4294967296 + waiting_at (g.T.TogetherRuns.seen l.runs) l.at
