use Rattle.std.proofs.Common.{◌≡◌, Some}
use Rattle.heap_rule.specs.Token.{IsIn}
use Rattle.gc_sweep.specs.Emptiness.{with_looks}
use Rattle.gc_sweep.proofs.returning.holds_block.Given as goal

abbrev pub invariant-loop-slot : goal.invariant-loop-slot
invariant-loop-slot l = record {
  here : IsIn l.dom l.heap;
  view : l.dom.view ≡ with_looks l.fn.dom.view l.dom.view;
  own : l.dom.view.seen.share.own_pool ≡ Some (record { pool = l.pool; class = l.class });
  next : l.dom.view.seen.share.held ≡ l.pool;
  so_far : l.dom.view.seen.share.vacant ≡ l.slot;
}
