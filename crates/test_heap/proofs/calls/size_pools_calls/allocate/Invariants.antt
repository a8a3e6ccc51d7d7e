use Rattle.std.proofs.Common.{◌+◌, ◌≤◌}
use Rattle.heap_rule.specs.Running.{Runs}
use Rattle.test_heap.proofs.calls.size_pools_calls.allocate.Given as goal

abbrev pub invariant-loop-made : goal.invariant-loop-made
invariant-loop-made l = record {
  runs : Runs l.heap l.dom;
  labels : l.dom.view.own.serial ≤ l.fn.dom.view.own.serial + l._made;
}
