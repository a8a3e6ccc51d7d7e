use Rattle.std.proofs.Common.{◌-◌, ◌≤◌, ◌+◌}
use Rattle.heap_rule.specs.Token.{IsIn}
use Rattle.gc_sweep.specs.Sweeping.{IsSweeping, Sweeps}
use Rattle.gc_sweep.proofs.sweeping.sweep_pools.Given as goal

abbrev pub invariant-sweeping : goal.invariant-sweeping
invariant-sweeping l = record {
  here : IsIn l.dom l.heap;
  sweeps : IsSweeping l.garbage l.dom.view;
  swept : Sweeps l.fn.dom.view l.dom.view l.count;
  few : l.count ≤ l.most;
}

abbrev pub decreases-sweeping : goal.decreases-sweeping
decreases-sweeping l = (l.most - l.count) + (l.pools - l.dom.view.own.swept.spot.pool)
