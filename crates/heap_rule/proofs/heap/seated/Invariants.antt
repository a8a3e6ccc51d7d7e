use Rattle.std.proofs.Common.{◌≡◌, ◌-◌, [], ◌++◌}
use Rattle.heap_rule.specs.Views.{opening_views}
use Rattle.heap_rule.specs.Opening.{opening_tokens}
use Rattle.heap_rule.proofs.heap.seated.Given as goal

abbrev pub invariant-loop-i : goal.invariant-loop-i
invariant-loop-i l = record {
  table : l.seat.table_id ≡ l.heap.table;
  view : l.seat.me ≡ (record { config = l.heap.config; history = []; domains = opening_views l.heap.config l.i (l.count - l.i) }, []);
  made : l.domains.items ++ opening_tokens l.heap.table l.heap.config l.i (l.count - l.i) ≡ opening_tokens l.heap.table l.heap.config 0 l.count;
}
