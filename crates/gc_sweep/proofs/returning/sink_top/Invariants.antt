use Rattle.std.proofs.Common.{◌≡◌, ◌-◌}
use Rattle.heap_rule.specs.Token.{IsIn}
use Rattle.step_sweep.specs.Holding.{Returns}
use Rattle.gc_sweep.specs.Emptiness.{sunk}
use Rattle.gc_sweep.proofs.returning.sink_top.Given as goal

abbrev pub invariant-loop-passed : goal.invariant-loop-passed
invariant-loop-passed l = record {
  here : IsIn l.dom l.heap;
  returns : Returns l.heap.config l.dom.view;
  view : l.dom.view ≡ sunk l.fn.dom.view l.dom.view;
  top : l.dom.view.own.swept.top ≡ l.top - l.passed;
}
