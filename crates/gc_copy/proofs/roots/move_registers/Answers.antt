use Rattle.std.proofs.Common.{◌≡◌, ◌≢◌, ℕ, ◌+◌, ◌≤◌, sym, ap, subst, ◌∙◌, arith}
use mathlib.Core.Logic.{dite}
use native.Mathlib.Decide.{ℕ_discrete}
use Rattle.heap_words.specs.declared.value.Value.{Value}
use Rattle.heap_rule.specs.declared.view.DomainView.{DomainView}
use Rattle.heap_rule.specs.Changes.{value_at}
use Rattle.heap_rule.specs.Copies.{IsOldValue}
use Rattle.gc_copy.specs.Roots.{Becomes, with_moves}
use Rattle.gc_copy.proofs.Meeting.{learns_twice}
use Rattle.gc_copy.proofs.Rooting.{becomes_on}
use Rattle.gc_copy.proofs.roots.move_registers.Goals as goal

pub loop-register-preserved : goal.loop-register-preserved
loop-register-preserved c =
    let k = c.args.heap.now.config in
    let x : DomainView = c.args.dom.now.view in
    let v : DomainView = c.loop-register.dom.view in
    let z : DomainView = c.move_register.new.dom.view in
    let i : ℕ = c.loop-register.register in
    let before = c.loop-register.invariant in
    let m = c.move_register.ensures.moved in record {
      here = c.move_register.ensures.here;
      view = m.view ∙ ap (λ (u : DomainView). with_moves u z) before.view;
      works = m.works;
      learns = learns_twice x v z before.learns m.learns;
      tied = m.tied;
      old = λ j below. dite (ℕ_discrete j i)
          (λ same. subst (λ (n : ℕ). IsOldValue k (value_at z.own.registers n)) (sym same) m.old)
          (λ other. let differs : j ≢ i = other in subst (IsOldValue k) (sym (m.others j other)) (before.old j (omega arith)));
      becomes = λ j below. dite (ℕ_discrete j i)
          (λ same. subst (λ (n : ℕ). Becomes k z (value_at x.own.registers n) (value_at z.own.registers n)) (sym same)
          (subst (λ (held : Value). Becomes k z held (value_at z.own.registers i)) (before.rest i (omega arith)) m.becomes))
          (λ other. let differs : j ≢ i = other in subst (Becomes k z (value_at x.own.registers j)) (sym (m.others j other))
          (becomes_on k v z (value_at x.own.registers j) (value_at v.own.registers j) m.learns (before.becomes j (omega arith))));
      rest = λ j from. let above : i + 1 ≤ j = from in m.others j (λ same. let e : j ≡ i = same in omega arith) ∙ before.rest j (omega arith);
    }
