use Rattle.std.proofs.Common.{◌≡◌, ◌<◌, ◌≤◌, ◌+◌, ◌*◌}
use Rattle.heap_rule.specs.Pools.{blocks_of}
use Rattle.heap_rule.specs.Token.{IsIn}
use Rattle.gc_sweep.specs.Counting.{IsLiveCount, with_count}
use Rattle.gc_sweep.proofs.counting.count_places.Given as goal

abbrev pub invariant-loop-slot : goal.invariant-loop-slot
invariant-loop-slot l = record {
  here : IsIn l.dom l.heap;
  view : l.dom.view ≡ with_count l.fn.dom.view l.dom.view;
  own_pool : l.dom.view.seen.share.own_pool ≡ l.fn.dom.view.seen.share.own_pool;
  more : l.slot < blocks_of l.class → l.dom.view.seen.share.counted_to ≡ record { pool = l.pool; slot = l.slot };
  done : blocks_of l.class ≤ l.slot → l.dom.view.seen.share.counted_to ≡ record { pool = l.pool + 1; slot = 0 };
  count : IsLiveCount l.sum (l.pool * 1024 + l.slot) l.dom.view;
}
