use Rattle.std.proofs.Common.{◌≡◌, length}
use Rattle.std.specs.Prelude.{vec_capacity}
use Rattle.do_spawn.specs.Opening.{HandedUpto}
use Rattle.do_spawn.proofs.opening.hand_over_each.Given as goal

abbrev pub invariant-loop-at : goal.invariant-loop-at
invariant-loop-at l = record {
  handed : HandedUpto l.heap l.first l.others.items l.at;
  count : length l.others.items ≡ length l.fn.others.items;
  capacity : vec_capacity l.others ≡ vec_capacity l.fn.others;
}
