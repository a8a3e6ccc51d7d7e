use Rattle.std.proofs.Common.{◌≡◌}
use Rattle.model_traces.specs.Schedules.Scheduled.{take_rounds}
use Rattle.judge_plain.specs.Scheduled.UnderWay.{IsUnderWay}
use Rattle.judge_plain.proofs.scheduled.turns.take_rounds.Given as goal

-- the rounds so far are taken
abbrev pub invariant-rounds : goal.invariant-rounds
invariant-rounds l = record {
  taken : l.run ≡ take_rounds l._round l.fn.run;
  way : IsUnderWay l.run;
}
