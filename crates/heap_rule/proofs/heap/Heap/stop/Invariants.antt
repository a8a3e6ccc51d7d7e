use Rattle.std.proofs.Common.{◌≡◌, [], ◌++◌, length}
use Rattle.heap_rule.specs.Ending.{AllIn, views_back}
use Rattle.heap_rule.proofs.heap.Heap.stop.Given as goal

abbrev pub invariant-loop-next : goal.invariant-loop-next
invariant-loop-next l = record {
  table : l.seat.table_id ≡ l.fn.self.table;
  config : l.seat.me.0.config ≡ l.fn.self.config;
  empty : l.seat.me.1 ≡ [];
  domains_are : l.seat.me.0.domains ++ views_back l.domains.items ≡ views_back l.fn.domains.items;
  rest : AllIn l.fn.self l.domains.items;
}

abbrev pub decreases-loop-next : goal.decreases-loop-next
decreases-loop-next l = length l.domains.items
