use Rattle.heap_rule.specs.Token.{IsIn}
use Rattle.gc_copy.specs.Filling.{Progress}
use Rattle.gc_copy.proofs.filling.fill.Given as goal

abbrev pub invariant-loop-place : goal.invariant-loop-place
invariant-loop-place l = record {
  here : IsIn l.dom l.heap;
  progress : Progress l.heap.config l.i (record { copy = l.copy; source = l.source }) l.size l.place l.fn.dom.view l.dom.view;
}
