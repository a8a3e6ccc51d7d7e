use Rattle.std.proofs.Common.{◌-◌}
use Rattle.heap_rule.specs.Token.{IsIn}
use Rattle.do_finalisers.proofs.Looking.{LastsLooked}
use Rattle.do_finalisers.proofs.deciding.last.Given as goal

abbrev pub invariant-loop-looked : goal.invariant-loop-looked
invariant-loop-looked l = record {
  here : IsIn l.dom l.heap;
  looked : LastsLooked l.heap.config l.colours (l.count - l.looked) l.fn.dom.view l.dom.view;
}
