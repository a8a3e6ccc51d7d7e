use Rattle.heap_rule.specs.Token.{IsIn}
use Rattle.gc_copy.specs.Sharing.{Gives}
use Rattle.gc_copy.proofs.promotion.give_back.Given as goal

abbrev pub invariant-loop-class : goal.invariant-loop-class
invariant-loop-class l = record {
  here : IsIn l.dom l.heap;
  gives : Gives l.heap.config l.class l.fn.dom.view l.dom.view;
}
