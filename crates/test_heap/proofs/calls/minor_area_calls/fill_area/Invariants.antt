use Rattle.heap_rule.specs.Running.{Runs}
use Rattle.test_heap.proofs.calls.minor_area_calls.fill_area.Given as goal

abbrev pub invariant-loop-made : goal.invariant-loop-made
invariant-loop-made l = Runs l.heap l.dom
