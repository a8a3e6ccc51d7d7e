use Rattle.std.proofs.Common.{◌≡◌, List, sym, ap, subst, ◌∙◌}
use Rattle.heap_words.specs.declared.value.Value.{Value}
use Rattle.heap_words.specs.declared.value.Value.TheVariants.{Ref}
use Rattle.heap_rule.specs.declared.view.Copying.{Copying}
use Rattle.heap_rule.specs.declared.view.DomainView.{DomainView}
use Rattle.heap_rule.specs.declared.view.Finalisers.{Finalisers}
use Rattle.heap_rule.specs.Changes.{value_at}
use Rattle.heap_rule.specs.Copies.{ListsCopy, known, IsOldValue}
use Rattle.heap_rule.specs.Finalisers.{held_at, RefersOld}
use Rattle.heap_rule.specs.Places.{More}
use Rattle.step_promote.specs.Promotion.{Knows}
use Rattle.gc_copy.specs.Held.{with_held_moves, without_addresses}
use Rattle.gc_copy.specs.Roots.{Becomes, with_moves, with_rewrites}
use Rattle.gc_copy.specs.Sharing.{with_share}
use Rattle.gc_copy.specs.Working.{Learns, with_claims}
use Rattle.heap_rule.proofs.Keeps.{more_same}
use Rattle.gc_copy.proofs.Meeting.{learns_twice}
use Rattle.gc_copy.proofs.Rooting.{becomes_on}
use Rattle.gc_copy.proofs.promotion.promote.Goals as goal

pub returns-clause-shared : goal.returns-clause-shared
returns-clause-shared c =
    let k = c.args.heap.now.config in
    let x : DomainView = c.args.dom.now.view in
    let moved : DomainView = c.move_registers.new.dom.view in
    let held : DomainView = c.move_finalisers.new.dom.view in
    let wrote : DomainView = c.rewrite_fields.new.dom.view in
    let filled : DomainView = c.fill_all.new.dom.view in
    let y : DomainView = c.give_back.new.dom.view in
    let m = c.move_registers.ensures.moved in
    let l = c.move_finalisers.ensures.moved in
    let w = c.rewrite_fields.ensures.rewritten in
    let f = c.fill_all.ensures.filled in
    let g = c.give_back.ensures.gave in
    let lists : held ≡ with_held_moves (with_moves x moved) held = l.view ∙ ap (λ (u : DomainView). with_held_moves u held) m.view in
    let first : wrote ≡ with_rewrites (with_held_moves (with_moves x moved) held) wrote = w.view ∙ ap (λ (u : DomainView). with_rewrites u wrote) lists in
    let copied : filled ≡ with_claims (with_rewrites (with_held_moves (with_moves x moved) held) wrote) filled = f.view ∙ ap (λ (u : DomainView). with_claims u filled) first in
    let whole : y ≡ with_claims (with_claims (with_rewrites (with_held_moves (with_moves x moved) held) wrote) filled) y = g.view ∙ ap (λ (u : DomainView). with_claims u y) copied in
    let registers : y.own.registers ≡ moved.own.registers = ap (λ (u : DomainView). u.own.registers) whole in
    let finalisers : y.own.finalisers ≡ held.own.finalisers = ap (λ (u : DomainView). u.own.finalisers) whole in
    let last : Learns filled y = record {
      more = subst (λ (z : Copying). More (Knows filled) (known z.met)) (sym g.copying) (more_same (Knows filled));
      copies = λ a d has. subst (λ (z : Copying). ListsCopy z.copied a d) (sym g.copying) has;
    } in
    let since : Learns held y = learns_twice held wrote y w.learns (learns_twice wrote filled y f.learns last) in
    let learns : Learns moved y = learns_twice moved held y l.learns since in
    let before : moved.own.finalisers ≡ x.own.finalisers = ap (λ (u : DomainView). u.own.finalisers) m.view in record {
      view = whole ∙ ap (with_share x) (sym whole);
      at_rest = g.at_rest;
      paid = ap (λ (z : Copying). z.pending) g.copying ∙ f.paid;
      looked_through = ap (λ (u : DomainView). u.seen.remembered) whole ∙ w.looked_through;
      holds_old = (λ r few. subst (λ (l : List Value). IsOldValue k (value_at l r)) (sym registers) (m.old r few), subst (RefersOld k) (sym finalisers) l.old);
      registers = λ r few. subst (λ (l : List Value). Becomes k y (value_at x.own.registers r) (value_at l r)) (sym registers)
          (becomes_on k moved y (value_at x.own.registers r) (value_at moved.own.registers r) learns (m.becomes r few));
      finalisers = record {
        addresses = λ h a is. let b = l.lists.addresses h a (ap (λ (z : Finalisers). held_at z h) before ∙ is) in record {
          new = b.new;
          held = ap (λ (z : Finalisers). held_at z h) finalisers ∙ b.held;
          becomes = becomes_on k held y (Ref a) (Ref b.new) since b.becomes;
        };
        rest = ap without_addresses finalisers ∙ (l.lists.rest ∙ ap without_addresses before);
      };
      unprepared = g.unprepared;
    }
