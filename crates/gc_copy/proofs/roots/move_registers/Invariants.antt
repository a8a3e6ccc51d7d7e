use Rattle.std.proofs.Common.{◌≡◌, ◌<◌, ◌≤◌, ℕ}
use Rattle.heap_rule.specs.Changes.{value_at}
use Rattle.heap_rule.specs.Copies.{IsOldValue}
use Rattle.heap_rule.specs.Token.{IsIn}
use Rattle.gc_copy.specs.Roots.{Becomes, with_moves}
use Rattle.gc_copy.specs.Working.{Works, Tied, Learns}
use Rattle.gc_copy.proofs.roots.move_registers.Given as goal

abbrev pub invariant-loop-register : goal.invariant-loop-register
invariant-loop-register l = record {
  here : IsIn l.dom l.heap;
  view : l.dom.view ≡ with_moves l.fn.dom.view l.dom.view;
  works : Works l.heap.config l.dom.view;
  learns : Learns l.fn.dom.view l.dom.view;
  tied : Tied 0 l.dom.view;
  old : (j : ℕ) → j < l.register → IsOldValue l.heap.config (value_at l.dom.view.own.registers j);
  becomes : (j : ℕ) → j < l.register → Becomes l.heap.config l.dom.view (value_at l.fn.dom.view.own.registers j) (value_at l.dom.view.own.registers j);
  rest : (j : ℕ) → l.register ≤ j → value_at l.dom.view.own.registers j ≡ value_at l.fn.dom.view.own.registers j;
}
