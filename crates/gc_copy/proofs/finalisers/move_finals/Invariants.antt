use Rattle.heap_rule.specs.Token.{IsIn}
use Rattle.heap_rule.specs.declared.view.Held.TheVariants.{Final}
use Rattle.gc_copy.specs.Held.{HeldMoved, IsBeforeIn}
use Rattle.gc_copy.proofs.finalisers.move_finals.Given as goal

abbrev pub invariant-loop-i : goal.invariant-loop-i
invariant-loop-i l = record {
  here : IsIn l.dom l.heap;
  moved : HeldMoved l.heap.config (IsBeforeIn Final l.i) l.fn.dom.view l.dom.view;
}
