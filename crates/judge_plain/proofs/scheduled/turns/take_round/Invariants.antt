use Rattle.std.proofs.Common.{◌≡◌, fold}
use Rattle.std.specs.List.{range_with_len}
use Rattle.model_traces.specs.Schedules.Scheduled.{take_turn}
use Rattle.judge_plain.specs.Scheduled.UnderWay.{IsUnderWay}
use Rattle.judge_plain.proofs.scheduled.turns.take_round.Given as goal

-- the turns so far are taken
abbrev pub invariant-domains : goal.invariant-domains
invariant-domains l = record {
  taken : l.run ≡ fold take_turn l.fn.run (range_with_len 0 l.domain);
  way : IsUnderWay l.run;
}
