use Rattle.std.proofs.Common.{◌<◌, ◌-◌}
use Rattle.heap_rule.specs.Pools.{blocks_of}
use Rattle.heap_rule.specs.Token.{IsIn}
use Rattle.gc_sweep.specs.Sweeping.{IsSweeping, Sweeps, SweepsAt}
use Rattle.gc_sweep.proofs.sweeping.sweep_places.Given as goal

abbrev pub invariant-loop-slot : goal.invariant-loop-slot
invariant-loop-slot l = record {
  here : IsIn l.dom l.heap;
  sweeps : IsSweeping l.garbage l.dom.view;
  swept : Sweeps l.fn.dom.view l.dom.view (l.slot - l.first);
  more : l.slot < blocks_of l.class → SweepsAt l.dom.view l.pool l.class l.slot;
}
