use Rattle.std.proofs.Common.{◌≡◌}
use Rattle.heap_rule.specs.Token.{IsIn}
use Rattle.gc_sweep.specs.Emptiness.{LooksFrom, with_looks}
use Rattle.gc_sweep.proofs.returning.return_pools.Given as goal

abbrev pub invariant-loop-pool : goal.invariant-loop-pool
invariant-loop-pool l = record {
  here : IsIn l.dom l.heap;
  view : l.dom.view ≡ with_looks l.fn.dom.view l.dom.view;
  next : LooksFrom l.heap.config l.dom.view l.pool;
}
