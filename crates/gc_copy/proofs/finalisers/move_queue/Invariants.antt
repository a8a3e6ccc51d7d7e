use Rattle.heap_rule.specs.Token.{IsIn}
use Rattle.heap_rule.specs.declared.view.Held.TheVariants.{Queue}
use Rattle.gc_copy.specs.Held.{HeldMoved, IsBeforeIn}
use Rattle.gc_copy.proofs.finalisers.move_queue.Given as goal

abbrev pub invariant-loop-i : goal.invariant-loop-i
invariant-loop-i l = record {
  here : IsIn l.dom l.heap;
  moved : HeldMoved l.heap.config (IsBeforeIn Queue l.i) l.fn.dom.view l.dom.view;
}
