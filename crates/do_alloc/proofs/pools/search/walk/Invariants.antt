use Rattle.std.proofs.Common.{◌≡◌, ◌<◌, ◌≤◌}
use Rattle.heap_rule.specs.declared.view.Hunt.TheVariants.{Walks}
use Rattle.heap_rule.specs.Pools.{blocks_of, place_of, search_at}
use Rattle.heap_rule.specs.Token.{IsIn}
use Rattle.do_alloc.specs.Pools.Taken.{Hunted}
use Rattle.do_alloc.proofs.pools.search.walk.Given as goal

abbrev pub invariant-loop-i : goal.invariant-loop-i
invariant-loop-i l = record {
  here : IsIn l.dom l.heap;
  view : Hunted l.fn.dom.view l.dom.view (Walks l.pool l.class);
  more : l.i < blocks_of l.class → place_of (search_at l.dom.view.own.looked l.class) ≡ record { pool = l.pool; slot = l.i };
  free : l.dom.view.seen.free ≡ l.fn.dom.view.seen.free;
  done : blocks_of l.class ≤ l.i → l.pool < (search_at l.dom.view.own.looked l.class).pool;
}
