use Rattle.std.proofs.Common.{◌≡◌, length}
use Rattle.std.specs.Prelude.{vec_capacity}
use Rattle.do_spawn.specs.Opening.{MetUpto}
use Rattle.do_spawn.proofs.opening.meet_each.Given as goal

abbrev pub invariant-loop-at : goal.invariant-loop-at
invariant-loop-at l = record {
  met : MetUpto l.heap l.fn.first.view.seen.front l.first l.others.items l.at;
  count : length l.others.items ≡ length l.fn.others.items;
  capacity : vec_capacity l.others ≡ vec_capacity l.fn.others;
}
