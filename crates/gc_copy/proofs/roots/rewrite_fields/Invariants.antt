use Rattle.std.proofs.Common.{◌≡◌, drop}
use Rattle.heap_rule.specs.Token.{IsIn}
use Rattle.gc_copy.specs.Roots.{with_rewrites}
use Rattle.gc_copy.specs.Working.{Works, Tied, Learns}
use Rattle.gc_copy.proofs.roots.rewrite_fields.Given as goal

abbrev pub invariant-loop-i : goal.invariant-loop-i
invariant-loop-i l = record {
  here : IsIn l.dom l.heap;
  view : l.dom.view ≡ with_rewrites l.fn.dom.view l.dom.view;
  works : Works l.heap.config l.dom.view;
  learns : Learns l.fn.dom.view l.dom.view;
  tied : Tied 0 l.dom.view;
  left : l.dom.view.seen.remembered ≡ drop l.i l.fn.dom.view.own.remembered.items;
}
