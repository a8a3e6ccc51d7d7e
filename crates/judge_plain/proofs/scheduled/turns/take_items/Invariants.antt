use Rattle.std.proofs.Common.{◌≡◌, fold, take}
use Rattle.model_traces.specs.Schedules.Scheduled.{take_item}
use Rattle.judge_plain.specs.Scheduled.UnderWay.{IsUnderWay}
use Rattle.judge_plain.proofs.scheduled.turns.take_items.Given as goal

-- the items so far are taken
abbrev pub invariant-items : goal.invariant-items
invariant-items l = record {
  taken : l.run ≡ fold take_item l.fn.run (take l.item-index l.items);
  way : IsUnderWay l.run;
}
