use Rattle.std.proofs.Common.{◌≡◌, ◌≤◌}
use Rattle.heap_rule.specs.Pools.{search_at}
use Rattle.heap_rule.specs.Token.{IsIn}
use Rattle.do_alloc.specs.Pools.Taken.{Missed}
use Rattle.do_alloc.proofs.pools.search.find_free.Given as goal

abbrev pub invariant-loop-passed : goal.invariant-loop-passed
invariant-loop-passed l = record {
  here : IsIn l.dom l.heap;
  missed : Missed l.fn.dom.view l.dom.view;
  free : l.dom.view.seen.free ≡ l.fn.dom.view.seen.free;
  near : (search_at l.fn.dom.view.own.looked l.class).pool ≤ (search_at l.dom.view.own.looked l.class).pool;
  past : l._passed ≤ (search_at l.dom.view.own.looked l.class).pool;
}
