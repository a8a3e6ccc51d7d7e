use Rattle.std.proofs.Common.{◌≡◌, ◌-◌}
use Rattle.heap_rule.specs.Token.{IsIn}
use Rattle.heap_rule.specs.Views.{pending_room}
use Rattle.gc_copy.specs.Working.{Works, Tied, Learns, with_claims}
use Rattle.gc_copy.proofs.filling.fill_all.Given as goal

abbrev pub invariant-loop-i : goal.invariant-loop-i
invariant-loop-i l = record {
  here : IsIn l.dom l.heap;
  works : Works l.heap.config l.dom.view;
  view : l.dom.view ≡ with_claims l.fn.dom.view l.dom.view;
  learns : Learns l.fn.dom.view l.dom.view;
  tied : Tied l.i l.dom.view;
}

abbrev pub decreases-loop-i : goal.decreases-loop-i
decreases-loop-i l = pending_room l.heap.config - l.i
