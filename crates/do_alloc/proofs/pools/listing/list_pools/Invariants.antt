use Rattle.std.proofs.Common.{◌≤◌}
use Rattle.heap_rule.specs.Token.{IsIn}
use Rattle.do_alloc.specs.Pools.Listed.{HasListed, Relisted}
use Rattle.do_alloc.proofs.pools.listing.list_pools.Given as goal

abbrev pub invariant-loop-pool : goal.invariant-loop-pool
invariant-loop-pool l = record {
  here : IsIn l.dom l.heap;
  few : l.count ≤ l.pool;
  listed : HasListed l.dom.view l.pool l.count;
  same : Relisted l.fn.dom.view l.dom.view;
}
