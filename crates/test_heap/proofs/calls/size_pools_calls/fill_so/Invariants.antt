use Rattle.heap_rule.specs.Running.{Runs}
use Rattle.test_heap.proofs.calls.size_pools_calls.fill_so.Given as goal

abbrev pub invariant-loop-fields : goal.invariant-loop-fields
invariant-loop-fields l = Runs l.heap l.dom
