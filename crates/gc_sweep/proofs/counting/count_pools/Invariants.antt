use Rattle.std.proofs.Common.{◌≡◌, ◌*◌}
use Rattle.heap_rule.specs.Token.{IsIn}
use Rattle.gc_sweep.specs.Counting.{IsCounting, IsLiveCount, with_count}
use Rattle.gc_sweep.proofs.counting.count_pools.Given as goal

abbrev pub invariant-loop-pool : goal.invariant-loop-pool
invariant-loop-pool l = record {
  here : IsIn l.dom l.heap;
  view : l.dom.view ≡ with_count l.fn.dom.view l.dom.view;
  counts : IsCounting l.heap.config l.dom.view;
  next : l.dom.view.seen.share.counted_to ≡ record { pool = l.pool; slot = 0 };
  count : IsLiveCount l.sum (l.pool * 1024) l.dom.view;
}
